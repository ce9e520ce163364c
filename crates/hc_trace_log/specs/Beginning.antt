-- How a trace begins.
use Rattle.std.specs.Prelude.{◌≡◌, ◌+◌, ◌<◌, ◌^◌, length}
use Rattle.hc_trace_text.specs.Lines.{lines_of}
use Rattle.hc_trace_meaning.specs.Trace.{Trace, Faulty, ended, actions_from}
use Rattle.hc_trace_log.specs.declared.configuring.Begun.{Begun}
use Rattle.hc_trace_log.specs.declared.configuring.Begun.TheVariants.{Configured, Fault}

-- the trace is a configuration and the lines behind it, or has this fault
abbrev pub IsBegun : Trace → Begun → Type 0
IsBegun trace (Configured config rest lines) = (trace ≡ ended config (actions_from lines (lines_of rest.now))) × (lines + length rest.now < 2 ^ 64)
IsBegun trace (Fault line) = trace ≡ Faulty line
