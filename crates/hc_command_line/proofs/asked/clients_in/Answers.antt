use Rattle.std.proofs.Common.{rules, ap, sym, map, ◌≡◌, ◌≢◌, ◌∙◌, [], Some, None, true, true≢false}
use Rattle.std.specs.String.{string_bytes}
use Rattle.clap.specs.Words.{app_of, fault_of, first_of, is_simple_and_free, kind_of, matches_of}
use Rattle.clap.specs.declared.error.kind.ErrorKind.TheVariants.{OutOfMemory}
use Rattle.hc_command_line.proofs.Reading.{app_made, beyond_is_wrong, count_is_asked, no_count_is_wrong, none_is_asked, only_memory, refused_is_wrong, value_found}
use Rattle.hc_command_line.proofs.Walks.{app, name}
use Rattle.hc_command_line.proofs.asked.clients_in.Goals as goal

pub returns-then-are_beyond-clause-wrong : goal.returns-then-are_beyond-clause-wrong
returns-then-are_beyond-clause-wrong c = λ _ clients asks. beyond_is_wrong string_bytes c.args.words.now (sym c.are_beyond.ensures ∙ c.if-are_beyond.true) clients asks

pub returns-in-Some-count_in-clause-asked : goal.returns-in-Some-count_in-clause-asked
returns-in-Some-count_in-clause-asked c =
    let words = map string_bytes c.args.words.now in
    let command = c.in_ok-command.command in
    let is : app_of command ≡ app = app_made c.new-2.result c.disable_help_flag.result command c.long-option.result
    c.new-2.ensures.app c.disable_help_flag.ensures c.in_ok-command.ensures.shape (search rules) (search rules) in
    let faults : fault_of app words ≡ [] = ap (λ a. fault_of a words) (sym is) ∙ c.in-Ok.ensures.kinds (ap is_simple_and_free is) in
    let value : first_of name (matches_of app words) ≡ Some c.in-Some.text.now =
    sym (value_found command words c.in-Ok.matches is c.in-Ok.ensures.matches) ∙ sym c.in-Some.ensures in
    count_is_asked string_bytes c.args.words.now c.in-Some.text.now c.in-Some-count_in.count (sym c.are_beyond.ensures ∙ c.if-are_beyond.false) faults value
    c.in-Some-count_in.ensures.0 c.in-Some-count_in.ensures.1

pub returns-in-Some-clause-wrong : goal.returns-in-Some-clause-wrong
returns-in-Some-clause-wrong c =
    let words = map string_bytes c.args.words.now in
    let command = c.in_ok-command.command in
    let is : app_of command ≡ app = app_made c.new-2.result c.disable_help_flag.result command c.long-option.result
    c.new-2.ensures.app c.disable_help_flag.ensures c.in_ok-command.ensures.shape (search rules) (search rules) in
    let value : first_of name (matches_of app words) ≡ Some c.in-Some.text.now =
    sym (value_found command words c.in-Ok.matches is c.in-Ok.ensures.matches) ∙ sym c.in-Some.ensures in
    λ _ asked asks. no_count_is_wrong words c.in-Some.text.now value c.in-None-count_in.ensures asked asks

pub returns-in-Ok-clause-asked : goal.returns-in-Ok-clause-asked
returns-in-Ok-clause-asked c =
    let words = map string_bytes c.args.words.now in
    let command = c.in_ok-command.command in
    let is : app_of command ≡ app = app_made c.new-2.result c.disable_help_flag.result command c.long-option.result
    c.new-2.ensures.app c.disable_help_flag.ensures c.in_ok-command.ensures.shape (search rules) (search rules) in
    let faults : fault_of app words ≡ [] = ap (λ a. fault_of a words) (sym is) ∙ c.in-Ok.ensures.kinds (ap is_simple_and_free is) in
    let value : first_of name (matches_of app words) ≡ None =
    sym (value_found command words c.in-Ok.matches is c.in-Ok.ensures.matches) ∙ sym c.in-None.ensures in
    none_is_asked string_bytes c.args.words.now (sym c.are_beyond.ensures ∙ c.if-are_beyond.false) faults value

pub returns-clause-wrong : goal.returns-clause-wrong
returns-clause-wrong c =
    let words = map string_bytes c.args.words.now in
    let command = c.in_ok-command.command in
    let is : app_of command ≡ app = app_made c.new-2.result c.disable_help_flag.result command c.long-option.result
    c.new-2.ensures.app c.disable_help_flag.ensures c.in_ok-command.ensures.shape (search rules) (search rules) in
    let other : kind_of c.in-Err.error ≢ OutOfMemory = λ e.
    let kind : c.kind.result ≡ OutOfMemory = c.kind.ensures ∙ e in
    let same : c.eq.result ≡ true = rw kind at c.eq.ensures in
    true≢false (sym same ∙ c.if-eq.false)
    in
    let refused = only_memory c.in-Err.error (fault_of (app_of command) words) (c.in-Err.ensures.kinds (ap is_simple_and_free is)) other in
    λ _ asked asks. refused_is_wrong words (λ none. refused (ap (λ a. fault_of a words) is ∙ none)) asked asks
