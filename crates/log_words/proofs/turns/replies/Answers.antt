use Rattle.std.proofs.Common.{rules, ◌≡◌, ◌∙◌, length}
use Rattle.log_words.proofs.Played.{replies_where}
use Rattle.log_words.proofs.turns.replies.Goals as goal

pub returns-clause-exact : goal.returns-clause-exact
returns-clause-exact g c = λ setup device same all.
    let count : length c.as_mut_slice.result.now ≡ c.args.output_words = search rules in
    replies_where g.A.IsoApp.reply g.A.IsoApp.next_state setup device _ c.args.lengths.now _ c.args.app
    c.args.turns.now same (count ∙ all) c.are_replies.ensures.exact
