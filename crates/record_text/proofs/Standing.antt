-- The rows of a journal stand by cycle.
use Rattle.std.proofs.Common.{◌≡◌, ◌≤◌, ◌<◌, ◌++◌, ℕ, List, inl, inr, arith, All}
use Rattle.std.specs.List.{Contains}
use Rattle.std.proofs.lemmas.List.Elements.{All-append, All-contains}
use Rattle.plan_rules.specs.Way.{Setup}
use Rattle.plan_rules.specs.World.{WorldRow}
use Rattle.cycle_rows.specs.Journal.{IsSegment, IsJournal, none, more}
use Rattle.cycle_rows.specs.Rows.{cycle_of}
use Rattle.cycle_rows.specs.declared.rows.JournalRow.{JournalRow}
use Rattle.cycle_rows.proofs.Journals.{row_of}
use Rattle.cycle_rows.proofs.Lists.{AllPairs-none, AllPairs-append, all_of}
use Rattle.record_text.specs.Text.{StandByCycle}

abbrev AreOf : ℕ → List JournalRow → Type 0
AreOf k rows = All (λ (r : JournalRow). cycle_of r ≡ k) rows

one_cycle : (k : ℕ) (rows : List JournalRow) → AreOf k rows → StandByCycle rows
one_cycle k rows all = λ i j d before below.
    let first = all i d (omega arith) in
    let second = all j d below in
    omega (arith, first, second)

below_all : (setup : Setup) (world : List WorldRow) (parcels : ℕ → List JournalRow) → ((k : ℕ) → AreOf k (parcels k)) →
    (n : ℕ) (rows : List JournalRow) → IsJournal setup world parcels n rows → (r : JournalRow) → Contains rows r → cycle_of r < n
below_all setup world parcels own n rows journal r is =
    let (k, less, of) = row_of setup world parcels n rows journal r is in
    elim of [
      | inl frame ↦ let here = frame.0 in omega (arith, less, here)
      | inr parcel ↦ let here = All-contains (λ (s : JournalRow). cycle_of s ≡ k) (parcels k) r (own k) parcel in omega (arith, less, here)
    ]

last_all : (setup : Setup) (world : List WorldRow) (parcels : ℕ → List JournalRow) → ((k : ℕ) → AreOf k (parcels k)) →
    (k : ℕ) (frames : List JournalRow) → IsSegment setup world k frames → AreOf k (frames ++ parcels k)
last_all setup world parcels own k frames segment =
    All-append (λ (r : JournalRow). cycle_of r ≡ k) frames (parcels k)
    (all_of (λ (r : JournalRow). cycle_of r ≡ k) frames (λ r is. ((segment.exactly r).0 is).0)) (own k)

pub stand_by_cycle : (setup : Setup) (world : List WorldRow) (parcels : ℕ → List JournalRow) → ((k : ℕ) → AreOf k (parcels k)) →
    (n : ℕ) (rows : List JournalRow) → IsJournal setup world parcels n rows → StandByCycle rows
stand_by_cycle setup world parcels own _ _ none = AllPairs-none (λ (r s : JournalRow). cycle_of r ≤ cycle_of s)
stand_by_cycle setup world parcels own _ _ (more k rows frames journal segment) =
    let last = last_all setup world parcels own k frames segment in
    AllPairs-append (λ (r s : JournalRow). cycle_of r ≤ cycle_of s) rows (frames ++ parcels k)
    (stand_by_cycle setup world parcels own k rows journal) (one_cycle k (frames ++ parcels k) last)
    (λ x y is also.
    let first = below_all setup world parcels own k rows journal x is in
    let second = All-contains (λ (s : JournalRow). cycle_of s ≡ k) (frames ++ parcels k) y last also in
    omega (arith, first, second))
