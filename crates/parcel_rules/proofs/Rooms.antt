-- Rows that parcels may still get: a cycle's rows are taken from them.
use Rattle.std.proofs.Common.{◌≡◌, ℕ, suc, ◌+◌, ◌*◌, ◌/◌, ◌%◌, ◌≤◌, ◌==◌, Bool, true, false, List, [], ◌∷◌, ◌++◌, map, length, Option, Some, None, refl, sym, ◌∙◌, ap, subst, arith, inl, inr, slice_get, All}
use Rattle.std.specs.Prelude.{if◌then◌else◌, slice_index_or}
use Rattle.std.specs.List.{sum_by, range_with_len, enumerate_from}
use Rattle.std.specs.Option.{option_map_or}
use Rattle.std.proofs.lemmas.List.Elements.{All-nil, All-append, All-map, All-head, All-tail, All-weaker}
use Rattle.std.proofs.lemmas.List.FromFn.{length-range_with_len}
use Rattle.std.proofs.lemmas.List.Sums.{sum_by-cons, sum_by-le}
use Rattle.std.proofs.lemmas.Option.{slice_get_cases}
use Rattle.irt_base.specs.Wiring.{peer_of}
use Rattle.irt_base.specs.declared.blocks.Bundle.{Bundle}
use Rattle.irt_base.specs.declared.numbers.DevId.{DevId}
use Rattle.irt_base.specs.declared.numbers.PortNo.{PortNo}
use Rattle.irt_base.specs.declared.plants.Plant.{Plant}
use Rattle.irt_base.specs.declared.plants.Traffic.{Traffic}
use Rattle.irt_route.specs.Walks.{IsBestWalk}
use Rattle.plant_rules.specs.Meets.{MeetsRules}
use Rattle.plan_rules.specs.World.{WorldRow, is_uncut}
use Rattle.period_gate.specs.declared.parcels.Parcel.{Parcel}
use Rattle.period_gate.specs.declared.parcels.Sent.{Sent}
use Rattle.cycle_rows.specs.declared.rows.JournalRow.{JournalRow}
use Rattle.cycle_rows.specs.declared.rows.JournalRow.TheVariants.{Occupy, Deliver, Missed, Sent as SentRow, Refused, Lost, Came}
use Rattle.parcel_rules.specs.declared.handed.Handed.{Handed}
use Rattle.parcel_rules.specs.Cycle.{all_ports, sends, after_row, loads_at}
use Rattle.parcel_rules.specs.Loads.{Gates, Loads, Offers, offered}
use Rattle.parcel_rules.specs.Made.{made_in, made_at_source, handed_to, parcel_of}
use Rattle.parcel_rules.specs.Room.{links_left, links_to_go, rows_to_come, handed_rows, pending, most_rows}
use Rattle.parcel_rules.specs.Rows.{sent_row, lost_row, sent_rows_at, lost_rows_at, sent_rows, lost_rows, rows_after, rows_in, parcel_rows}
use Rattle.parcel_rules.specs.Steps.{Step, steps_from}
use Rattle.parcel_rules.proofs.Offered.{either_way, offers_all}
use Rattle.parcel_rules.proofs.Balance.{AreWeights}
use Rattle.parcel_rules.proofs.Distance.{one_less, left_at_start}
use Rattle.parcel_rules.proofs.Lists.{everywhere, All-flat_map}
use Rattle.parcel_rules.proofs.Placed.{HaveWalks, walk_step, IsWaitingAt, AllWait, leaves_device, sent_on, entries_there}
use Rattle.parcel_rules.proofs.Queues.{SendFronts}
use Rattle.parcel_rules.proofs.Sending.{sent_wait}
use Rattle.parcel_rules.proofs.Sums.{sum_map, sum_flat_map}
use Rattle.parcel_rules.proofs.Whole.{placed_at, placed_offers, cycle_weight}

-- each traffic entry has a shortest walk
abbrev pub HaveBest : Plant → List (List PortNo) → Type 0
HaveBest plant walks = (number : ℕ) (t : Traffic) → slice_get plant.traffic number ≡ Some t →
    IsBestWalk (peer_of plant) t.source.0 (slice_index_or walks number []) t.target.0

pub walks_of : (plant : Plant) (walks : List (List PortNo)) → HaveBest plant walks → HaveWalks plant walks
walks_of plant walks best number t there = (best number t there).walk

module _ (plant : Plant) (walks : List (List PortNo)) where
  abbrev to_go : ℕ → DevId → ℕ
  to_go = links_to_go plant walks

  abbrev waits : Step → Parcel → ℕ
  waits at p = rows_to_come plant walks at.0 p

  abbrev flies : Handed → ℕ
  flies h = rows_to_come plant walks h.device h.parcel

  -- A parcel that is sent gets one row; one whose way ends takes with it what was still to come.
  abbrev written : JournalRow → ℕ
  written (Occupy k d p f start end) = 0
  written (Deliver k d f end) = 0
  written (Missed k d f) = 0
  written (SentRow k d p traffic serial start end) = 1
  written (Refused k d p traffic serial) = to_go traffic d + 1
  written (Lost k d p traffic serial) = to_go traffic d
  written (Came k d traffic serial) = to_go traffic d + 1

  -- the links to go of a parcel of an entry that stands in the plant
  to_go_of : (number : ℕ) (t : Traffic) (device : DevId) → slice_get plant.traffic number ≡ Some t →
      to_go number device ≡ links_left device (steps_from plant t.source (slice_index_or walks number []))
  to_go_of number t device there =
      ap (λ (o : Option Traffic). option_map_or (λ (x : Traffic). links_left device (steps_from plant x.source (slice_index_or walks number []))) o 0) there

  module _ (best : HaveBest plant walks) where
    less_to_go : (at far : Step) (parcel : Parcel) → IsWaitingAt plant walks at parcel → peer_of plant at.0.0 at.1.0 ≡ Some far →
        to_go parcel.traffic at.0 ≡ to_go parcel.traffic far.0 + 1
    less_to_go at far parcel wait leads =
        let one = best parcel.traffic wait.t wait.there in
        let less = one_less plant wait.t.source (slice_index_or walks parcel.traffic []) wait.t.target.0 one.walk one.shortest at.0 at far wait.step leads in
        let here = to_go_of parcel.traffic wait.t at.0 wait.there in
        let there = to_go_of parcel.traffic wait.t far.0 wait.there in
        omega arith

    same_place : (h : Handed) (t : Traffic) (at : Step) → walk_step plant walks t h.parcel h.device ≡ Some at → to_go h.parcel.traffic at.0 ≡ to_go h.parcel.traffic h.device
    same_place h t at step = ap (to_go h.parcel.traffic) (leaves_device h.device (steps_from plant t.source (slice_index_or walks h.parcel.traffic [])) at step)

    weights : (row : WorldRow) (k : ℕ) → AreWeights plant walks row k waits flies written
    weights row k = record {
      came = λ h t there target. refl;
      refused = λ h t at there step. let same = same_place h t at step in omega arith;
      queued = λ h t at there step. let same = same_place h t at step in omega arith;
      crossed = λ at far one wait leads. let less = less_to_go at far one.parcel wait leads in omega arith;
      lost = λ at one wait. omega arith;
    }

-- ---- each row weighs something

pub sum_counts : {X : Type 0} (f : X → ℕ) (xs : List X) → All (λ x. 1 ≤ f x) xs → length xs ≤ sum_by f xs
sum_counts f [] all = omega arith
sum_counts f (x ∷ xs) all =
    let here = All-head (λ y. 1 ≤ f y) x xs all in
    let more = sum_counts f xs (All-tail (λ y. 1 ≤ f y) x xs all) in
    omega (arith, sum_by-cons f x xs)

sum_within : {X : Type 0} (f g : X → ℕ) (xs : List X) → All (λ x. f x ≤ g x) xs → sum_by f xs ≤ sum_by g xs
sum_within f g [] all = omega arith
sum_within f g (x ∷ xs) all =
    let here = All-head (λ y. f y ≤ g y) x xs all in
    let more = sum_within f g xs (All-tail (λ y. f y ≤ g y) x xs all) in
    omega (arith, sum_by-cons f x xs, sum_by-cons g x xs)

module _ (plant : Plant) (rules : MeetsRules plant) (bundles : List Bundle) (walks : List (List PortNo)) (best : HaveBest plant walks) (fronts : SendFronts) where
  have : HaveWalks plant walks
  have = walks_of plant walks best

  abbrev Weighs : JournalRow → Type 0
  Weighs r = 1 ≤ written plant walks r

  lost_weighs : (row : WorldRow) (k : ℕ) (gates : Gates) → AllWait plant walks gates → All Weighs (lost_rows plant bundles row k gates)
  lost_weighs row k gates all =
      All-flat_map Weighs (λ (at : Step). Unit {0}) (lost_rows_at plant bundles row k gates) (all_ports plant) (λ i d below. tt)
      (λ at any. either_way (All Weighs) (is_uncut plant row at.0.0 at.1.0) [] (map (lost_row k at) (sends plant bundles row k gates at)) (All-nil Weighs)
      (All-map Weighs (lost_row k at) (sends plant bundles row k gates at)
      (All-weaker (λ (one : Sent). IsWaitingAt plant walks at one.parcel) (λ (one : Sent). Weighs (lost_row k at one))
      (λ one wait.
      let (far, leads, on) = sent_on plant walks have at one.parcel wait in
      let less = less_to_go plant walks best at far one.parcel wait leads in
      omega arith)
      (sends plant bundles row k gates at) (sent_wait plant rules bundles walks have fronts row k gates all at))))

  sent_weighs : (row : WorldRow) (k : ℕ) (gates : Gates) → All Weighs (sent_rows plant bundles row k gates)
  sent_weighs row k gates =
      All-flat_map Weighs (λ (at : Step). Unit {0}) (sent_rows_at plant bundles row k gates) (all_ports plant) (λ i d below. tt)
      (λ at any. All-map Weighs (sent_row plant row k at) (sends plant bundles row k gates at)
      (everywhere (λ (one : Sent). Weighs (sent_row plant row k at one)) (sends plant bundles row k gates at) (λ one. omega arith)))

  rows_weigh : (row : WorldRow) (k : ℕ) (loads : Loads) → AllWait plant walks (offered plant walks k loads).gates →
      All Weighs (rows_after plant bundles row k (offered plant walks k loads))
  rows_weigh row k loads all =
      let o : Offers = offered plant walks k loads in
      let offers = offers_all plant walks k Weighs (λ at parcel. omega arith) (λ h. omega arith) loads in
      All-append Weighs (sent_rows plant bundles row k o.gates) (o.refused ++ (lost_rows plant bundles row k o.gates ++ o.came)) (sent_weighs row k o.gates)
      (All-append Weighs o.refused (lost_rows plant bundles row k o.gates ++ o.came) offers.refused
      (All-append Weighs (lost_rows plant bundles row k o.gates) o.came (lost_weighs row k o.gates all) offers.came))

  -- ---- what is made

  abbrev most_of : ℕ × Traffic → ℕ
  most_of e = e.1.count * (length (slice_index_or walks e.0 []) + 1)

  made_within : (k : ℕ) (e : ℕ × Traffic) → slice_get plant.traffic e.0 ≡ Some e.1 → handed_rows plant walks (made_at_source k e.0 e.1) ≤ most_of e
  made_within k e there = by_due (k % e.1.every == 0)
    where
      by_due : (due : Bool) → handed_rows plant walks (map (handed_to e.1.source)
          (if due then map (parcel_of e.0 e.1) (range_with_len (k / e.1.every * e.1.count) e.1.count) else [])) ≤ most_of e
      by_due false = omega arith
      by_due true =
          let Block : List ℕ = range_with_len (k / e.1.every * e.1.count) e.1.count in
          let here = to_go_of plant walks e.0 e.1 e.1.source there in
          let start = left_at_start plant e.1.source (slice_index_or walks e.0 []) in
          let long : links_to_go plant walks e.0 e.1.source + 1 ≤ length (slice_index_or walks e.0 []) + 1 = omega arith in
          let each = sum_by-le (λ (s : ℕ). links_to_go plant walks e.0 e.1.source + 1) (length (slice_index_or walks e.0 []) + 1) Block
          (everywhere (λ (s : ℕ). links_to_go plant walks e.0 e.1.source + 1 ≤ length (slice_index_or walks e.0 []) + 1) Block (λ s. long)) in
          let count = ap (λ (n : ℕ). n * (length (slice_index_or walks e.0 []) + 1)) (length-range_with_len (k / e.1.every * e.1.count) e.1.count) in
          let one = sum_map (λ (h : Handed). rows_to_come plant walks h.device h.parcel) (handed_to e.1.source) (map (parcel_of e.0 e.1) Block) in
          let two = sum_map (λ (p : Parcel). rows_to_come plant walks e.1.source p) (parcel_of e.0 e.1) Block in
          omega arith

  all_within : (k : ℕ) → handed_rows plant walks (made_in plant k) ≤ most_rows plant walks
  all_within k =
      let entries = enumerate_from 0 plant.traffic in
      let whole = sum_flat_map (λ (h : Handed). rows_to_come plant walks h.device h.parcel) (λ (e : ℕ × Traffic). made_at_source k e.0 e.1) entries in
      let each = sum_within (λ (e : ℕ × Traffic). handed_rows plant walks (made_at_source k e.0 e.1)) most_of entries
      (All-weaker (λ (e : ℕ × Traffic). slice_get plant.traffic e.0 ≡ Some e.1) (λ e. handed_rows plant walks (made_at_source k e.0 e.1) ≤ most_of e)
      (λ e there. made_within k e there) entries (entries_there plant walks have)) in
      omega arith

  -- ---- a cycle

  no_rows_after : (world : List WorldRow) (k : ℕ) → slice_get world k ≡ None →
      length (parcel_rows plant bundles walks world k) + pending plant walks (loads_at plant bundles walks world (k + 1))
      ≤ pending plant walks (loads_at plant bundles walks world k) + most_rows plant walks
  no_rows_after world k none =
      let next : k + 1 ≡ suc k = omega arith in
      let rows = ap (λ o. length (rows_in plant bundles walks k (loads_at plant bundles walks world k) o)) none in
      let after : loads_at plant bundles walks world (k + 1) ≡ loads_at plant bundles walks world k =
      ap (loads_at plant bundles walks world) next ∙ ap (after_row plant bundles walks k (loads_at plant bundles walks world k)) none in
      let same = ap (pending plant walks) after in
      omega arith

  pub rows_within : (world : List WorldRow) (k : ℕ) →
      length (parcel_rows plant bundles walks world k) + pending plant walks (loads_at plant bundles walks world (k + 1))
      ≤ pending plant walks (loads_at plant bundles walks world k) + most_rows plant walks
  rows_within world k =
      elim (slice_get_cases world k).1 [
        | inl (row, within, is, same) ↦
            let loads : Loads = loads_at plant bundles walks world k in
            let rows : parcel_rows plant bundles walks world k ≡ rows_after plant bundles row k (offered plant walks k loads) = ap (rows_in plant bundles walks k loads) is in
            let heavy = subst (All Weighs) (sym rows)
            (rows_weigh row k loads (placed_offers plant rules bundles walks have fronts row k loads (placed_at plant rules bundles walks have fronts world k))) in
            let count = sum_counts (written plant walks) (parcel_rows plant bundles walks world k) heavy in
            let cycle = cycle_weight plant rules bundles walks have fronts (waits plant walks) (flies plant walks) (written plant walks) (weights plant walks best) world k within in
            let made = all_within k in
            omega arith
        | inr (past, none) ↦ no_rows_after world k none
      ]
