-- How often a row stands in a journal.
use Rattle.std.proofs.Common.{◌≡◌, ℕ, suc, ◌<◌, ◌==◌, ◌&&◌, Bool, true, false, cond, List, ◌++◌, ◌⊎◌, inl, inr, refl, sym, ◌∙◌, subst, arith}
use Rattle.std.specs.Prelude.{ℤ}
use Rattle.std.specs.List.{Contains, count_by}
use Rattle.std.proofs.lemmas.Bool.{cases_lt, eqb-true, eq-eqb}
use Rattle.std.proofs.lemmas.List.Sums.{sum_by-append}
use Rattle.plan_rules.specs.Way.{Setup}
use Rattle.plan_rules.specs.World.{WorldRow}
use Rattle.cycle_rows.specs.declared.rows.JournalRow.{JournalRow}
use Rattle.cycle_rows.specs.declared.rows.JournalRow.TheVariants.{Occupy, Deliver, Missed, Sent, Refused, Lost, Came}
use Rattle.cycle_rows.specs.Journal.{IsSegment, IsJournal, none, more}
use Rattle.cycle_rows.specs.Rows.{cycle_of}
use Rattle.cycle_rows.specs.Safe.{is_sending, is_delivery, is_drop}
use Rattle.cycle_rows.proofs.Lists.{count_none}
use Rattle.cycle_rows.proofs.Journals.{IsOfCycle, row_of}

-- ---- tests of rows

both : (a b : Bool) → (a && b) ≡ true → (a ≡ true) × (b ≡ true)
both true b h = (refl, h)
both false b h = absurd (cc)

together : (a b : Bool) → a ≡ true → b ≡ true → (a && b) ≡ true
together true b p q = q
together false b p q = absurd (cc)

pub sending_is : (k d p f : ℕ) (r : JournalRow) → is_sending k d p f r ≡ true →
    (start end : ℤ) × (r ≡ Occupy k (record { 0 = d }) (record { 0 = p }) (record { 0 = f }) start end)
sending_is k d p f (Occupy j c q g start end) h =
    let (first, frames) = both ((j == k) && (c.0 == d) && (q.0 == p)) (g.0 == f) h in
    let (second, ports) = both ((j == k) && (c.0 == d)) (q.0 == p) first in
    let (cycles, devices) = both (j == k) (c.0 == d) second in
    let cycle = eqb-true j k cycles in
    let device = eqb-true c.0 d devices in
    let port = eqb-true q.0 p ports in
    let frame = eqb-true g.0 f frames in
    (start, end, λ i. Occupy (cycle i) (record { 0 = device i }) (record { 0 = port i }) (record { 0 = frame i }) start end)
sending_is k d p f (Deliver j c g end) h = absurd (cc)
sending_is k d p f (Missed j c g) h = absurd (cc)
sending_is k d p f (Sent j c q traffic serial start end) h = absurd (cc)
sending_is k d p f (Refused j c q traffic serial) h = absurd (cc)
sending_is k d p f (Lost j c q traffic serial) h = absurd (cc)
sending_is k d p f (Came j c traffic serial) h = absurd (cc)

pub sending_passes : (k d p f : ℕ) (start end : ℤ) → is_sending k d p f (Occupy k (record { 0 = d }) (record { 0 = p }) (record { 0 = f }) start end) ≡ true
sending_passes k d p f start end =
    together ((k == k) && (d == d) && (p == p)) (f == f)
    (together ((k == k) && (d == d)) (p == p) (together (k == k) (d == d) (eq-eqb k k refl) (eq-eqb d d refl)) (eq-eqb p p refl)) (eq-eqb f f refl)

pub delivery_is : (k d f : ℕ) (r : JournalRow) → is_delivery k d f r ≡ true →
    (end : ℤ) × (r ≡ Deliver k (record { 0 = d }) (record { 0 = f }) end)
delivery_is k d f (Deliver j c g end) h =
    let (first, frames) = both ((j == k) && (c.0 == d)) (g.0 == f) h in
    let (cycles, devices) = both (j == k) (c.0 == d) first in
    let cycle = eqb-true j k cycles in
    let device = eqb-true c.0 d devices in
    let frame = eqb-true g.0 f frames in
    (end, λ i. Deliver (cycle i) (record { 0 = device i }) (record { 0 = frame i }) end)
delivery_is k d f (Occupy j c q g start end) h = absurd (cc)
delivery_is k d f (Missed j c g) h = absurd (cc)
delivery_is k d f (Sent j c q traffic serial start end) h = absurd (cc)
delivery_is k d f (Refused j c q traffic serial) h = absurd (cc)
delivery_is k d f (Lost j c q traffic serial) h = absurd (cc)
delivery_is k d f (Came j c traffic serial) h = absurd (cc)

three_pass : (k d f : ℕ) → ((k == k) && (d == d) && (f == f)) ≡ true
three_pass k d f = together ((k == k) && (d == d)) (f == f) (together (k == k) (d == d) (eq-eqb k k refl) (eq-eqb d d refl)) (eq-eqb f f refl)

pub delivery_passes : (k d f : ℕ) (end : ℤ) → is_delivery k d f (Deliver k (record { 0 = d }) (record { 0 = f }) end) ≡ true
delivery_passes k d f end = three_pass k d f

pub drop_is : (k d f : ℕ) (r : JournalRow) → is_drop k d f r ≡ true → r ≡ Missed k (record { 0 = d }) (record { 0 = f })
drop_is k d f (Missed j c g) h =
    let (first, frames) = both ((j == k) && (c.0 == d)) (g.0 == f) h in
    let (cycles, devices) = both (j == k) (c.0 == d) first in
    let cycle = eqb-true j k cycles in
    let device = eqb-true c.0 d devices in
    let frame = eqb-true g.0 f frames in
    λ i. Missed (cycle i) (record { 0 = device i }) (record { 0 = frame i })
drop_is k d f (Occupy j c q g start end) h = absurd (cc)
drop_is k d f (Deliver j c g end) h = absurd (cc)
drop_is k d f (Sent j c q traffic serial start end) h = absurd (cc)
drop_is k d f (Refused j c q traffic serial) h = absurd (cc)
drop_is k d f (Lost j c q traffic serial) h = absurd (cc)
drop_is k d f (Came j c traffic serial) h = absurd (cc)

pub drop_passes : (k d f : ℕ) → is_drop k d f (Missed k (record { 0 = d }) (record { 0 = f })) ≡ true
drop_passes k d f = three_pass k d f

-- ---- a test that only rows of one cycle pass, and no parcels

pub record IsOfFrames (setup : Setup) (world : List WorldRow) (parcels : ℕ → List JournalRow) (cycle : ℕ) (p : JournalRow → Bool) : Type 0 where
  pub cycles : (r : JournalRow) → p r ≡ true → cycle_of r ≡ cycle
  pub others : (k : ℕ) (r : JournalRow) → Contains (parcels k) r → p r ≡ false
  pub once : (frames : List JournalRow) → IsSegment setup world cycle frames → count_by p frames ≡ 1

fails_elsewhere : (k cycle : ℕ) (p : JournalRow → Bool) (r : JournalRow) → ((r : JournalRow) → p r ≡ true → cycle_of r ≡ cycle) → cycle_of r ≡ k → ¬ (k ≡ cycle) →
    (b : Bool) → p r ≡ b → p r ≡ false
fails_elsewhere k cycle p r cycles at other false e = e
fails_elsewhere k cycle p r cycles at other true e = absurd (other (sym at ∙ cycles r e))

-- a row of another cycle fails it
other_cycle : (setup : Setup) (world : List WorldRow) (parcels : ℕ → List JournalRow) (cycle : ℕ) (p : JournalRow → Bool) → IsOfFrames setup world parcels cycle p →
    (k : ℕ) → ¬ (k ≡ cycle) → (r : JournalRow) → IsOfCycle setup world parcels k r → p r ≡ false
other_cycle setup world parcels cycle p of k other r (inl frame) = fails_elsewhere k cycle p r of.cycles frame.0 other (p r) refl
other_cycle setup world parcels cycle p of k other r (inr parcel) = of.others k r parcel

none_before : (setup : Setup) (world : List WorldRow) (parcels : ℕ → List JournalRow) (cycle : ℕ) (p : JournalRow → Bool) → IsOfFrames setup world parcels cycle p →
    (n : ℕ) (rows : List JournalRow) → IsJournal setup world parcels n rows → n < suc cycle → count_by p rows ≡ 0
none_before setup world parcels cycle p of n rows journal early =
    count_none p rows (λ r is.
    let (k, before, row) = row_of setup world parcels n rows journal r is in
    other_cycle setup world parcels cycle p of k (λ same. absurd (omega arith)) r row)

pub counted : (setup : Setup) (world : List WorldRow) (parcels : ℕ → List JournalRow) (cycle : ℕ) (p : JournalRow → Bool) → IsOfFrames setup world parcels cycle p →
    (n : ℕ) (rows : List JournalRow) → IsJournal setup world parcels n rows → cycle < n → count_by p rows ≡ 1
counted setup world parcels cycle p of _ _ none below = absurd (omega (arith, below))
counted setup world parcels cycle p of _ _ (more k rows frames journal segment) below =
    let whole = sum_by-append (λ r. cond (p r) 1 0) rows (frames ++ parcels k) in
    let part = sum_by-append (λ r. cond (p r) 1 0) frames (parcels k) in
    let no_parcel = count_none p (parcels k) (λ r is. of.others k r is) in
    elim (last_or_earlier cycle k below) [
      | inl early ↦
          let before = counted setup world parcels cycle p of k rows journal early in
          let here = count_none p frames (λ r is. other_cycle setup world parcels cycle p of k (λ same. absurd (omega arith)) r (inl ((segment.exactly r).0 is))) in
          omega arith
      | inr late ↦
          let before = none_before setup world parcels cycle p of k rows journal (omega arith) in
          let here = of.once frames (subst (λ n. IsSegment setup world n frames) (sym late) segment) in
          omega arith
    ]
  where
    last_or_earlier : (c n : ℕ) → c < suc n → (c < n) ⊎ (c ≡ n)
    last_or_earlier c n h = elim (cases_lt c n) [ inl l ↦ inl l | inr g ↦ inr (omega arith) ]
