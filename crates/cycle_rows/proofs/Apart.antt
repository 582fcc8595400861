-- The rows of a journal are apart.
use Rattle.std.proofs.Common.{◌≡◌, ℕ, List, ◌++◌, inl, inr, subst₂, arith}
use Rattle.std.specs.Prelude.{ℤ}
use Rattle.std.specs.List.{Contains}
use Rattle.std.proofs.lemmas.List.Elements.{All-contains, Contains-append_cases}
use Rattle.std.proofs.lemmas.Option.{same_Some}
use Rattle.irt_base.specs.declared.blocks.Bundle.{Bundle}
use Rattle.irt_base.specs.declared.numbers.DevId.{DevId}
use Rattle.irt_base.specs.declared.numbers.PortNo.{PortNo}
use Rattle.irt_base.specs.declared.plants.Plant.{Plant}
use Rattle.plan_rules.specs.Expected.{IsSafeOver}
use Rattle.plan_rules.specs.Occupation.{Occupation, IsSameSending}
use Rattle.plan_rules.specs.Plan.{setup_of}
use Rattle.plan_rules.specs.World.{WorldRow}
use Rattle.cycle_rows.specs.declared.rows.JournalRow.{JournalRow}
use Rattle.cycle_rows.specs.declared.rows.JournalRow.TheVariants.{Occupy, Deliver, Missed, Sent, Refused, Lost, Came}
use Rattle.cycle_rows.specs.Apart.{Use, IsClearOf, AreClear, AreRowsApart}
use Rattle.cycle_rows.specs.Journal.{IsSegment, IsJournal, none, more}
use Rattle.cycle_rows.specs.Order.{IsRowBefore}
use Rattle.cycle_rows.specs.Parcels.{IsParcelRow, AreParcelRows}
use Rattle.cycle_rows.specs.Rows.{IsFrameRow, cycle_of}
use Rattle.cycle_rows.proofs.Lists.{AllPairs-none, AllPairs-append, AllPairs-then}
use Rattle.cycle_rows.proofs.Clear.{Stands, frames_clear, one_start, cycles_clear, parcel_clear}
use Rattle.cycle_rows.proofs.Journals.{IsOfCycle, row_of}
use Rattle.cycle_rows.proofs.Ordered.{other_key}

abbrev use_at : DevId → PortNo → ℤ → ℤ → Use
use_at d p start end = record { device = d.0; port = p.0; start = start; end = end }

module _ (plant : Plant) (bundles : List Bundle) (world : List WorldRow) (safe : IsSafeOver plant bundles world) where
  -- ---- the frames of a cycle

  frame_rows_clear : (r s : JournalRow) → IsFrameRow (setup_of plant bundles) world r → IsFrameRow (setup_of plant bundles) world s → IsRowBefore r s → AreClear r s
  frame_rows_clear (Occupy k d p f start end) (Occupy j c q g from until) is also before u v first second =
      let o : Occupation = record { cycle = k; device = d.0; port = p.0; frame = f.0; start = start; end = end } in
      let w : Occupation = record { cycle = j; device = c.0; port = q.0; frame = g.0; start = from; end = until } in
      let differ : ¬ IsSameSending o w = λ same.
      let starts = one_start plant bundles world safe.sent o w is also same in
      other_key (Occupy k d p f start end) (Occupy j c q g from until) before
      (λ i. record { kind = 0; device = same.device i; port = same.port i; at = starts i }) in
      let one = same_Some (use_at d p start end) u first in
      let two = same_Some (use_at c q from until) v second in
      subst₂ IsClearOf one two (λ device port. frames_clear plant bundles world safe.apart o w is also differ (record { device = device; port = port }))
  frame_rows_clear (Occupy k d p f start end) (Deliver j c g until) is also before u v first second = absurd (cc)
  frame_rows_clear (Occupy k d p f start end) (Missed j c g) is also before u v first second = absurd (cc)
  frame_rows_clear (Occupy k d p f start end) (Sent j c q traffic serial from until) is also before u v first second = absurd also
  frame_rows_clear (Occupy k d p f start end) (Refused j c q traffic serial) is also before u v first second = absurd (cc)
  frame_rows_clear (Occupy k d p f start end) (Lost j c q traffic serial) is also before u v first second = absurd (cc)
  frame_rows_clear (Occupy k d p f start end) (Came j c traffic serial) is also before u v first second = absurd (cc)
  frame_rows_clear (Deliver k d f end) s is also before u v first second = absurd (cc)
  frame_rows_clear (Missed k d f) s is also before u v first second = absurd (cc)
  frame_rows_clear (Sent k d p traffic serial start end) s is also before u v first second = absurd (is)
  frame_rows_clear (Refused k d p traffic serial) s is also before u v first second = absurd (cc)
  frame_rows_clear (Lost k d p traffic serial) s is also before u v first second = absurd (cc)
  frame_rows_clear (Came k d traffic serial) s is also before u v first second = absurd (cc)

  segment_apart : (k : ℕ) (frames : List JournalRow) → IsSegment (setup_of plant bundles) world k frames → AreRowsApart frames
  segment_apart k frames segment =
      AllPairs-then IsRowBefore AreClear frames segment.order
      (λ r s is also before. frame_rows_clear r s ((segment.exactly r).0 is).1 ((segment.exactly s).0 also).1 before)

  -- ---- the cycles

  module _ (parcels : ℕ → List JournalRow) (keep : (k : ℕ) → AreParcelRows plant bundles world k (parcels k)) where
    parcel_row : (k : ℕ) (r : JournalRow) → Contains (parcels k) r → (cycle_of r ≡ k) × IsParcelRow plant bundles world r
    parcel_row k r is = (
      All-contains (λ (x : JournalRow). cycle_of x ≡ k) (parcels k) r (keep k).cycle is,
      All-contains (IsParcelRow plant bundles world) (parcels k) r (keep k).each is,
    )

    stands_in : (k : ℕ) (r : JournalRow) → IsOfCycle (setup_of plant bundles) world parcels k r → (cycle_of r ≡ k) × Stands plant bundles world r
    stands_in k r (inl frame) = (frame.0, inl frame.1)
    stands_in k r (inr parcel) = let (cycle, row) = parcel_row k r parcel in (cycle, inr row)

    of_part : (k : ℕ) (frames : List JournalRow) → IsSegment (setup_of plant bundles) world k frames → (r : JournalRow) → Contains (frames ++ parcels k) r →
        IsOfCycle (setup_of plant bundles) world parcels k r
    of_part k frames segment r is = elim (Contains-append_cases frames (parcels k) r is) [
      | inl frame ↦ inl ((segment.exactly r).0 frame)
      | inr parcel ↦ inr parcel
    ]

    part_apart : (k : ℕ) (frames : List JournalRow) → IsSegment (setup_of plant bundles) world k frames → AreRowsApart (frames ++ parcels k)
    part_apart k frames segment =
        AllPairs-append AreClear frames (parcels k) (segment_apart k frames segment) (keep k).apart
        (λ r s is also. parcel_clear plant bundles world safe r s ((segment.exactly r).0 is).1 (parcel_row k s also).1)

    pub rows_apart : (n : ℕ) (rows : List JournalRow) → IsJournal (setup_of plant bundles) world parcels n rows → AreRowsApart rows
    rows_apart _ _ none = AllPairs-none AreClear
    rows_apart _ _ (more k rows frames journal segment) =
        AllPairs-append AreClear rows (frames ++ parcels k) (rows_apart k rows journal) (part_apart k frames segment)
        (λ r s is also.
        let (j, before, of) = row_of (setup_of plant bundles) world parcels k rows journal r is in
        let (first, one) = stands_in j r of in
        let (second, two) = stands_in k s (of_part k frames segment s also) in
        cycles_clear plant bundles world safe r s one two (omega arith))
