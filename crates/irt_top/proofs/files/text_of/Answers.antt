use Rattle.std.proofs.Common.{◌<◌, ◌≡◌, arith, length, get_or}
use Rattle.irt_top.proofs.NameLemmas.{small_letter, push_letter}
use Rattle.irt_top.proofs.files.text_of.Goals as goal

pub loop-letter-preserved : goal.loop-letter-preserved
loop-letter-preserved c =
    let inside : c.loop-letter.letter-index < length c.args.name.now = omega arith in
    let small : get_or c.args.name.now c.loop-letter.letter-index 0 < 128 = small_letter c.args.name.now c.loop-letter.letter-index c.requires inside in
    let same : c.from.result ≡ get_or c.args.name.now c.loop-letter.letter-index 0 = c.from.ensures in
    let ascii : c.from.result < 128 = omega arith in
    push_letter _ _ c.args.name.now _ c.from.result c.loop-letter.letter-index c.in_ok-push.ensures.bytes c.loop-letter.invariant
    (c.in_ok-push.ensures.ascii ascii) same inside
