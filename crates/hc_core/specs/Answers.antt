-- How the code's answers are seen, and why a call is refused.
pub use Rattle.hc_state.specs.Answers.{refusal_in, IsReason, IsNextReply, is_work}
pub use Rattle.hc_state.specs.find.Answer.{found_answer}
pub use Rattle.hc_state.specs.find.Copy.{copied_by, left_by}
pub use Rattle.hc_state.specs.store.Insert.{inserted_answer}
pub use Rattle.hc_state.specs.remove.Answer.{removed_answer}
