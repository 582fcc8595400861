use Rattle.std.proofs.Common.{◌≡◌, ◌-◌, ◌+◌, ◌==◌, ◌++◌, ◌∷◌, [], suc, length, false, true, ap, ◌∙◌, arith, inr}
use Rattle.std.proofs.lemmas.List.{length-append}
use Rattle.std.proofs.lemmas.Result.{err_from_is_err_and}
use Rattle.irt_base.specs.declared.limits.TheConstants.{MAX_DEMANDS}
use Rattle.irt_block.proofs.Loops.{with_front}
use Rattle.pdir_frame.specs.Frames.{entries_at}
use Rattle.pdir_frame.proofs.Steps.{entry_goes_on, entry_ends, entries_full, entries_out}
use Rattle.pdir_frame.proofs.reading.entries.Goals as goal
use Rattle.pdir_frame.proofs.reading.entries.Goals.{then-loop-entries-test+else-len-lt-MAX_DEMANDS, else-loop-entries-test}

pub returns-in_err-entry-clause-gives : goal.returns-in_err-entry-clause-gives
returns-in_err-entry-clause-gives c =
    let p = err_from_is_err_and c.from_residual.result c.from_residual.ensures.1 in
    let room : MAX_DEMANDS - length c.loop-entries.entries ≡ suc (MAX_DEMANDS - length c.loop-entries.entries - 1) = omega (arith, c.len.ensures, c.if-len-lt-MAX_DEMANDS.true) in
    let more : (length c.loop-entries.left.now == 0) ≡ false = grind (arith, c.loop-entries-test.true, c.is_empty.ensures) in
    rw (p.1, p.2) (entry_ends c.in_err-entry.field-0.0 c.loop-entries.entries _ _ c.loop-entries.least c.args.extent c.loop-entries.left.now _ room more (inr c.in_err-entry.ensures.gives) c.loop-entries.invariant.read)

pub loop-entries-preserved : goal.loop-entries-preserved
loop-entries-preserved c =
    let e = c.in_ok-entry.entry in
    let pushed : c.push.new.self ≡ c.loop-entries.entries ++ e ∷ [] = c.in_ok-push.ensures.ok in
    let count : length c.push.new.self ≡ length c.loop-entries.entries + 1 = ap length pushed ∙ length-append c.loop-entries.entries (e ∷ []) in
    let room : MAX_DEMANDS - length c.loop-entries.entries ≡ suc (MAX_DEMANDS - length c.push.new.self) = omega (arith, count, c.len.ensures, c.if-len-lt-MAX_DEMANDS.true) in
    let more : (length c.loop-entries.left.now == 0) ≡ false = grind (arith, c.loop-entries-test.true, c.is_empty.ensures) in
    let step = entry_goes_on c.loop-entries.entries _ _ c.loop-entries.least c.args.extent c.loop-entries.left.now e c.in_ok-entry.after.now _ room more c.in_ok-entry.ensures.gives c.loop-entries.invariant.read in
    let shorter = c.in_ok-entry.ensures.shorter in
    let before = c.loop-entries.invariant.shorter in
    record {
      read = ap (λ front. with_front front (entries_at (MAX_DEMANDS - length c.push.new.self) (e.frame.0 + 1) c.args.extent c.in_ok-entry.after.now)) pushed ∙ step;
      shorter = omega arith;
    }

pub returns-clause-gives : goal.returns-clause-gives
returns-clause-gives c = elim c.loop-entries-test.branch [
  | then-loop-entries-test+else-len-lt-MAX_DEMANDS w ↦
      let full : MAX_DEMANDS - length c.loop-entries.entries ≡ 0 = omega (arith, w.len.ensures, w.if-len-lt-MAX_DEMANDS.false) in
      entries_full c.loop-entries.entries _ c.loop-entries.least c.args.extent c.loop-entries.left.now _ full c.loop-entries.invariant.read
  | else-loop-entries-test w ↦
      let none : (length c.loop-entries.left.now == 0) ≡ true = grind (arith, w.loop-entries-test.false, c.is_empty.ensures) in
      entries_out c.loop-entries.entries _ c.loop-entries.least c.args.extent c.loop-entries.left.now _ none c.loop-entries.invariant.read
]
