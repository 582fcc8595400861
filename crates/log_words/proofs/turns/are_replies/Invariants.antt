use Rattle.std.proofs.Common.{◌≡◌, ◌<◌, ◌↔◌, ℕ, drop, get_or, length}
use Rattle.iso_rules.specs.declared.turn.Turn.{Turn}
use Rattle.log_words.specs.Turns.{PutOutReplies}
use Rattle.log_words.proofs.turns.are_replies.Given as goal

abbrev pub invariant-loop-turn : goal.invariant-loop-turn
invariant-loop-turn g l = record {
  rest : PutOutReplies g.A.IsoApp.reply g.A.IsoApp.next_state l.lengths (length l.fn.output) l.initial.app l.turns
      ↔ PutOutReplies g.A.IsoApp.reply g.A.IsoApp.next_state l.lengths (length l.fn.output) l.app
      (drop l.turn-index l.turns);
  widths : (k : ℕ) (d : Turn) → k < l.turn-index → length (get_or l.turns k d).output ≡ length l.fn.output;
}
