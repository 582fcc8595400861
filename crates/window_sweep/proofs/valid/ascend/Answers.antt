use Rattle.std.proofs.Common.{◌≡◌, ◌<◌, ◌≤◌, ◌+◌, ◌-◌, inl, inr, ℕ, List, length, ap, arith}
use Rattle.std.proofs.lemmas.Bool.{cases_lt, cases_eq}
use Rattle.std.proofs.lemmas.List.{get_or_default}
use Rattle.window_sweep.specs.declared.slot.SendSlot.{SendSlot}
use Rattle.window_sweep.proofs.PairLaws.{frame_at}
use Rattle.window_sweep.proofs.valid.ascend.Goals as goal

-- each ascends from the one before it: one more
rises_more : (slots : List SendSlot) (p : ℕ) (z : SendSlot) → 1 ≤ p → p < length slots → ((i j : ℕ) (d : SendSlot) → i < j → j < p → frame_at slots i d < frame_at slots j d)
    → frame_at slots (p - 1) z < frame_at slots p z → (i j : ℕ) (d : SendSlot) → i < j → j < p + 1 → frame_at slots i d < frame_at slots j d
rises_more slots p z from inside so_far step i j d below within =
    elim (cases_lt j p) [
      | inl before ↦ so_far i j d below before
      | inr at ↦
          let e : j ≡ p = omega arith in
          let here = ap (λ (n : ℕ). frame_at slots n d) e in
          let first = ap (λ (s : SendSlot). s.frame.0) (get_or_default slots (p - 1) d z (omega arith)) in
          let second = ap (λ (s : SendSlot). s.frame.0) (get_or_default slots p d z inside) in
          elim (cases_eq i (p - 1)) [
            | inl last ↦ let there = ap (λ (n : ℕ). frame_at slots n d) last in omega (arith, here, there, first, second, step)
            | inr other ↦ let rise = so_far i (p - 1) d (omega arith) (omega arith) in omega (arith, here, first, second, step, rise)
          ]
    ]

pub loop-place-preserved : goal.loop-place-preserved
loop-place-preserved c =
    rises_more c.args.slots.now c.loop-place.place _ c.loop-place.auto.place (omega arith) c.loop-place.invariant c.if-slots-place.false
