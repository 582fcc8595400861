-- Which rows stand in a journal, and that it is one.
use Rattle.std.proofs.Common.{◌≡◌, ℕ, suc, ◌<◌, List, [], ◌++◌, ◌⊎◌, inl, inr, refl, sym, ◌∙◌, arith}
use Rattle.std.specs.List.{Contains}
use Rattle.std.proofs.lemmas.Bool.{cases_lt}
use Rattle.std.proofs.lemmas.List.Elements.{Contains-append_left, Contains-append_right, Contains-append_cases}
use Rattle.plan_rules.specs.Way.{Setup}
use Rattle.plan_rules.specs.World.{WorldRow}
use Rattle.cycle_rows.specs.declared.rows.JournalRow.{JournalRow}
use Rattle.cycle_rows.specs.Journal.{IsSegment, IsJournal, none, more}
use Rattle.cycle_rows.specs.Rows.{IsFrameRow, IsFrameRowOf, cycle_of}
use Rattle.cycle_rows.proofs.Lists.{nothing}
use Rattle.cycle_rows.proofs.Ordered.{one_list}

-- a row of a frame's, or of the parcels of its cycle
abbrev pub IsOfCycle : Setup → List WorldRow → (ℕ → List JournalRow) → ℕ → JournalRow → Type 0
IsOfCycle setup world parcels k r = IsFrameRowOf setup world k r ⊎ Contains (parcels k) r

pub row_of : (setup : Setup) (world : List WorldRow) (parcels : ℕ → List JournalRow) (n : ℕ) (rows : List JournalRow) → IsJournal setup world parcels n rows →
    (r : JournalRow) → Contains rows r → (k : ℕ) × (k < n) × IsOfCycle setup world parcels k r
row_of setup world parcels _ _ none r is = absurd (nothing r is)
row_of setup world parcels _ _ (more k rows frames journal segment) r is = elim (Contains-append_cases rows (frames ++ parcels k) r is) [
  | inl early ↦ let (j, below, of) = row_of setup world parcels k rows journal r early in (j, omega arith, of)
  | inr late ↦ elim (Contains-append_cases frames (parcels k) r late) [
    | inl frame ↦ (k, omega arith, inl ((segment.exactly r).0 frame))
    | inr parcel ↦ (k, omega arith, inr parcel)
  ]
]

last_or_earlier : (c n : ℕ) → c < suc n → (c < n) ⊎ (c ≡ n)
last_or_earlier c n h = elim (cases_lt c n) [ inl l ↦ inl l | inr g ↦ inr (omega arith) ]

pub frame_row_in : (setup : Setup) (world : List WorldRow) (parcels : ℕ → List JournalRow) (n : ℕ) (rows : List JournalRow) → IsJournal setup world parcels n rows →
    (r : JournalRow) → cycle_of r < n → IsFrameRow setup world r → Contains rows r
frame_row_in setup world parcels _ _ none r below is = absurd (omega (arith, below))
frame_row_in setup world parcels _ _ (more k rows frames journal segment) r below is = elim (last_or_earlier (cycle_of r) k below) [
  | inl early ↦ Contains-append_left rows (frames ++ parcels k) r (frame_row_in setup world parcels k rows journal r early is)
  | inr late ↦ Contains-append_right rows (frames ++ parcels k) r (Contains-append_left frames (parcels k) r ((segment.exactly r).1 (late, is)))
]

-- ---- one journal

pub one_segment : (setup : Setup) (world : List WorldRow) (k : ℕ) (rows others : List JournalRow) → IsSegment setup world k rows → IsSegment setup world k others →
    rows ≡ others
one_segment setup world k rows others one two =
    one_list rows others one.order two.order (λ r is. (two.exactly r).1 ((one.exactly r).0 is)) (λ r is. (one.exactly r).1 ((two.exactly r).0 is))

-- the last cycle's rows, and what stands before them
record HasLast (setup : Setup) (world : List WorldRow) (parcels : ℕ → List JournalRow) (k : ℕ) (all : List JournalRow) : Type 0 where
  rows : List JournalRow
  frames : List JournalRow
  whole : all ≡ rows ++ (frames ++ parcels k)
  before : IsJournal setup world parcels k rows
  segment : IsSegment setup world k frames

last_part : (setup : Setup) (world : List WorldRow) (parcels : ℕ → List JournalRow) (k : ℕ) (all : List JournalRow) → IsJournal setup world parcels (suc k) all →
    HasLast setup world parcels k all
last_part setup world parcels k _ (more _ rows frames journal segment) =
    record { rows = rows; frames = frames; whole = refl; before = journal; segment = segment }

nothing_written : (setup : Setup) (world : List WorldRow) (parcels : ℕ → List JournalRow) (all : List JournalRow) → IsJournal setup world parcels 0 all → [] ≡ all
nothing_written setup world parcels _ none = refl

pub one_journal : (setup : Setup) (world : List WorldRow) (parcels : ℕ → List JournalRow) (n : ℕ) (rows others : List JournalRow) →
    IsJournal setup world parcels n rows → IsJournal setup world parcels n others → rows ≡ others
one_journal setup world parcels _ _ others none second = nothing_written setup world parcels others second
one_journal setup world parcels _ _ others (more k rows frames journal segment) second =
    let l = last_part setup world parcels k others second in
    let same = one_journal setup world parcels k rows l.rows journal l.before in
    let last = one_segment setup world k frames l.frames segment l.segment in
    (λ i. same i ++ (last i ++ parcels k)) ∙ sym l.whole
