-- Entries of a block, which ascend by FrameID.
use Rattle.std.proofs.Common.{◌≡◌, ◌<◌, ◌≤◌, ◌+◌, ◌==◌, ℕ, zero, suc, List, [], ◌∷◌, Option, Some, None, length, get_or, refl, sym, ◌∙◌, ap, subst, arith, inl, inr, ◌⊎◌}
use Rattle.std.specs.Prelude.{slice_get, option_and_then, option_map}
use Rattle.std.specs.List.Sorted.{IsStrictlyIncreasing}
use Rattle.std.proofs.lemmas.Bool.{eq-eqb, eqb-true, ne_eqb, cases_order, cases_eq, cases_Bool}
use Rattle.std.proofs.lemmas.Option.{same_Some, none-some, slice_get-map, slice_get_within, slice_get-get_or, get_or_from_slice_get}
use Rattle.std.proofs.lemmas.List.Elements.{All-from_recursion}
use Rattle.std.proofs.lemmas.List.Kept.{AllPairs-from_increasing}
use Rattle.irt_base.specs.Valid.{IsBundle, IsEntry, frames_of}
use Rattle.irt_base.specs.declared.blocks.Bundle.{Bundle}
use Rattle.irt_base.specs.declared.blocks.Entry.{Entry}
use Rattle.irt_base.specs.declared.blocks.FrameBlock.{FrameBlock}
use Rattle.irt_base.specs.declared.plants.Plant.{Plant}
use Rattle.plan_rules.specs.Way.{entry_at}
use Rattle.plan_rules.specs.Plan.{IsPlan, setup_of}
use Rattle.plan_rules.specs.declared.way.Way.{Way}
use Rattle.irt_base.specs.declared.numbers.DevId.{DevId}
use Rattle.plan_rules.specs.declared.place.Place.{Place}
use Rattle.plan_rules.specs.Places.{IsLess, IsAt, IsLeastOf}
use Rattle.way_rules.specs.Scan.{AtFrame}
use Rattle.irt_window.specs.Search.{entry_in}
use Rattle.way_rules.specs.Placed.{IsPlaced, IsWayPlan, IsRow}

pub record Ascend (entries : List Entry) : Type 0 where
  pub less : (i j : ℕ) (a b : Entry) → i < j → slice_get entries i ≡ Some a → slice_get entries j ≡ Some b → a.frame.0 < b.frame.0

ascend_tail : (x : Entry) (xs : List Entry) → Ascend (x ∷ xs) → Ascend xs
ascend_tail x xs up = record { less = λ i j a b lt is_a is_b. up.less (suc i) (suc j) a b (omega arith) is_a is_b }

-- an entry is the one of its frame
pub entry_in-frame : (entries : List Entry) (n : ℕ) (e : Entry) → Ascend entries → slice_get entries n ≡ Some e → entry_in entries e.frame.0 ≡ Some e
entry_in-frame [] n e up is = absurd (none-some e is)
entry_in-frame (x ∷ xs) zero e up is =
    let same : x ≡ e = same_Some x e is in
    rw (eq-eqb x.frame.0 e.frame.0 (ap (λ (y : Entry). y.frame.0) same)) is
entry_in-frame (x ∷ xs) (suc n) e up is =
    let less : x.frame.0 < e.frame.0 = up.less 0 (suc n) x e (omega arith) refl is in
    rw (ne_eqb x.frame.0 e.frame.0 (λ same. absurd (omega arith))) (entry_in-frame xs n e (ascend_tail x xs up) is)

-- and what is found of a frame stands at some place
pub place_of_entry : (entries : List Entry) (frame : ℕ) (e : Entry) → entry_in entries frame ≡ Some e
    → (n : ℕ) × (slice_get entries n ≡ Some e) × (e.frame.0 ≡ frame)
place_of_entry [] frame e is = absurd (none-some e is)
place_of_entry (x ∷ xs) frame e is =
    elim (cases_Bool (x.frame.0 == frame)) [
      | inl here ↦
          let same : Some x ≡ Some e = rw here at is in
          (0, same, ap (λ (y : Entry). y.frame.0) (sym (same_Some x e same)) ∙ eqb-true x.frame.0 frame here)
      | inr other ↦
          let more : entry_in xs frame ≡ Some e = rw other at is in
          let (n, at, named) = place_of_entry xs frame e more in (suc n, at, named)
    ]

frame_at : (entries : List Entry) (n : ℕ) (e : Entry) → slice_get entries n ≡ Some e → get_or (frames_of entries) n 0 ≡ e.frame.0
frame_at entries n e is =
    get_or_from_slice_get (frames_of entries) n e.frame.0 0
    (slice_get-map (λ (x : Entry). x.frame.0) entries n ∙ ap (option_map (λ (x : Entry). x.frame.0)) is)

pub ascend_from_frames : (entries : List Entry) → IsStrictlyIncreasing (frames_of entries) → Ascend entries
ascend_from_frames entries up =
    let pairs = AllPairs-from_increasing (frames_of entries) up in
    record {
      less = λ i j x y lt is_x is_y.
          let within = slice_get_within (frames_of entries) j y.frame.0
          (slice_get-map (λ (z : Entry). z.frame.0) entries j ∙ ap (option_map (λ (z : Entry). z.frame.0)) is_y) in
          let less = pairs i j 0 lt within in
          subst (λ (n : ℕ). n < y.frame.0) (frame_at entries i x is_x)
          (subst (λ (n : ℕ). get_or (frames_of entries) i 0 < n) (frame_at entries j y is_y) less);
    }

pub ascend_from_block : (b : Bundle) → IsBundle b → Ascend b.frames.entries
ascend_from_block b valid = ascend_from_frames b.frames.entries valid.frames.ascending

pub bundle_valid : (plant : Plant) (bundles : List Bundle) (device : ℕ) (b : Bundle) → IsPlan plant bundles → slice_get bundles device ≡ Some b → IsBundle b
bundle_valid plant bundles device b plan held =
    let within = slice_get_within bundles device b held in
    subst IsBundle (get_or_from_slice_get bundles device b b held) (plan.blocks device b within)

pub entry_valid : (b : Bundle) (n : ℕ) (e : Entry) → IsBundle b → slice_get b.frames.entries n ≡ Some e → IsEntry e
entry_valid b n e valid is =
    let all = All-from_recursion IsEntry b.frames.entries valid.frames.each in
    let within = slice_get_within b.frames.entries n e is in
    subst IsEntry (get_or_from_slice_get b.frames.entries n e e is) (all n e within)

-- what a device's bundle says of a frame
pub entry_at-held : (plant : Plant) (bundles : List Bundle) (device frame : ℕ) (b : Bundle) → slice_get bundles device ≡ Some b
    → entry_at (setup_of plant bundles) device frame ≡ entry_in b.frames.entries frame
entry_at-held plant bundles device frame b held =
    ap (option_and_then (λ (block : FrameBlock). entry_in block.entries frame))
    (slice_get-map (λ (x : Bundle). x.frames) bundles device ∙ ap (option_map (λ (x : Bundle). x.frames)) held)

-- where a device has an entry of a frame, its block has it at some place
pub record Stands (bundles : List Bundle) (device frame : ℕ) (e : Entry) : Type 0 where
  pub b : Bundle
  pub n : ℕ
  pub held : slice_get bundles device ≡ Some b
  pub is : slice_get b.frames.entries n ≡ Some e
  pub named : e.frame.0 ≡ frame

stands_from : (plant : Plant) (bundles : List Bundle) (device frame : ℕ) (e : Entry) (held : Option Bundle) → slice_get bundles device ≡ held
    → entry_at (setup_of plant bundles) device frame ≡ Some e → Stands bundles device frame e
stands_from plant bundles device frame e None held is =
    absurd (none-some e (sym (ap (option_and_then (λ (block : FrameBlock). entry_in block.entries frame))
    (slice_get-map (λ (x : Bundle). x.frames) bundles device ∙ ap (option_map (λ (x : Bundle). x.frames)) held)) ∙ is))
stands_from plant bundles device frame e (Some b) held is =
    let (n, at, named) = place_of_entry b.frames.entries frame e (sym (entry_at-held plant bundles device frame b held) ∙ is) in
    record { b = b; n = n; held = held; is = at; named = named }

pub stands : (plant : Plant) (bundles : List Bundle) (device frame : ℕ) (e : Entry) → entry_at (setup_of plant bundles) device frame ≡ Some e
    → Stands bundles device frame e
stands plant bundles device frame e is = stands_from plant bundles device frame e (slice_get bundles device) refl is

pub entry_at-valid : (plant : Plant) (bundles : List Bundle) (device frame : ℕ) (e : Entry) → IsPlan plant bundles
    → entry_at (setup_of plant bundles) device frame ≡ Some e → IsEntry e
entry_at-valid plant bundles device frame e plan is =
    let s = stands plant bundles device frame e is in
    entry_valid s.b s.n e (bundle_valid plant bundles device s.b plan s.held) s.is

-- an entry of a bundle is placed, with the way of its place
pub placed : (plant : Plant) (bundles : List Bundle) (ways : List (List Way)) (device n : ℕ) (b : Bundle) (row : List Way) (e : Entry) (way : Way)
    → IsWayPlan plant bundles ways → slice_get bundles device ≡ Some b → slice_get ways device ≡ Some row
    → slice_get b.frames.entries n ≡ Some e → slice_get row n ≡ Some way → IsPlaced plant bundles device e way
placed plant bundles ways device n b row e way w held own is at =
    let valid = bundle_valid plant bundles device b w.plan held in
    record {
      plan = w.plan;
      there = slice_get_within bundles device b held;
      stands = entry_at-held plant bundles device e.frame.0 b held ∙ entry_in-frame b.frames.entries n e (ascend_from_block b valid) is;
      valid = entry_valid b n e valid is;
      way = (w.ways.each device b row held own).each n e way is at;
    }

-- the rule holds at the first so many entries
abbrev pub HoldsUpTo : (ℕ → Type 0) → List Entry → ℕ → Type 0
HoldsUpTo Holds entries n = (k : ℕ) (e : Entry) → k < n → slice_get entries k ≡ Some e → Holds e.frame.0

pub up_to_more : (Holds : ℕ → Type 0) (entries : List Entry) (n : ℕ) (e : Entry) → HoldsUpTo Holds entries n → slice_get entries n ≡ Some e
    → Holds e.frame.0 → HoldsUpTo Holds entries (n + 1)
up_to_more Holds entries n e up is here k x less at =
    elim (cases_eq k n) [
      | inl same ↦
          let one : e ≡ x = same_Some e x (sym is ∙ (ap (slice_get entries) (sym same) ∙ at)) in
          subst (λ (y : Entry). Holds y.frame.0) one here
      | inr other ↦ up k x (omega arith) at
    ]

option_cases : {A : Type 0} (o : Option A) → (o ≡ None) ⊎ ((x : A) × (o ≡ Some x))
option_cases None = inl refl
option_cases (Some x) = inr (x, refl)

-- a lesser frame stands before
before_in : (b : Bundle) (n k : ℕ) (e x : Entry) → Ascend b.frames.entries → slice_get b.frames.entries n ≡ Some e
    → slice_get b.frames.entries k ≡ Some x → x.frame.0 < e.frame.0 → k < n
before_in b n k e x up is_e is_x less =
    elim (cases_order n k) [
      | inl same ↦
          let one : e ≡ x = same_Some e x (sym is_e ∙ (ap (slice_get b.frames.entries) same ∙ is_x)) in
          absurd (omega (arith, less, ap (λ (y : Entry). y.frame.0) one))
      | inr (inl after) ↦ absurd (omega (arith, less, up.less n k e x after is_e is_x))
      | inr (inr before) ↦ before
    ]

-- the rule holds at every frame, since it does where there is none
pub all_frames : (plant : Plant) (bundles : List Bundle) (device : ℕ) (b : Bundle) (n : ℕ) (Holds : ℕ → Type 0)
    → ((frame : ℕ) → entry_at (setup_of plant bundles) device frame ≡ None → Holds frame)
    → slice_get bundles device ≡ Some b → length b.frames.entries ≤ n → HoldsUpTo Holds b.frames.entries n → (frame : ℕ) → Holds frame
all_frames plant bundles device b n Holds absent held all up frame =
    let at = entry_at-held plant bundles device frame b held in
    elim (option_cases (entry_in b.frames.entries frame)) [
      | inl none ↦ absent frame (at ∙ none)
      | inr some ↦
          let (k, is, named) = place_of_entry b.frames.entries frame some.0 some.1 in
          subst Holds named (up k some.0 (omega (arith, slice_get_within b.frames.entries k some.0 is)) is)
    ]

-- at the frames below that of entry n
pub lesser_frames : (plant : Plant) (bundles : List Bundle) (device : ℕ) (b : Bundle) (n : ℕ) (e : Entry) (Holds : ℕ → Type 0)
    → ((frame : ℕ) → entry_at (setup_of plant bundles) device frame ≡ None → Holds frame)
    → IsPlan plant bundles → slice_get bundles device ≡ Some b → slice_get b.frames.entries n ≡ Some e
    → HoldsUpTo Holds b.frames.entries n → (frame : ℕ) → frame < e.frame.0 → Holds frame
lesser_frames plant bundles device b n e Holds absent plan held stands up frame less =
    let at = entry_at-held plant bundles device frame b held in
    elim (option_cases (entry_in b.frames.entries frame)) [
      | inl none ↦ absent frame (at ∙ none)
      | inr some ↦
          let (k, is, named) = place_of_entry b.frames.entries frame some.0 some.1 in
          subst Holds named (up k some.0 (before_in b n k e some.0 (ascend_from_block b (bundle_valid plant bundles device b plan held)) stands is (omega arith)) is)
    ]

abbrev some_bundle : Bundle → Option Bundle
some_bundle b = Some b

abbrev some_row : List Way → Option (List Way)
some_row row = Some row

-- a device's entries and ways, as indexing gives them
pub is_row : (bundles : List Bundle) (ways : List (List Way)) (device i j : ℕ) (b : Bundle) (row own : List Way) (entries : List Entry)
    → length ways ≡ length bundles → device < length bundles → i ≡ device → j ≡ device → entries ≡ (get_or bundles i b).frames.entries
    → row ≡ get_or ways j row → own ≡ row → IsRow bundles ways device entries own
is_row bundles ways device i j b row own entries count there at_i at_j same row_is same_row =
    let there_too : device < length ways = omega arith in
    record {
      b = get_or bundles device b;
      held = slice_get-get_or bundles device b there;
      rows = slice_get-get_or ways device row there_too
          ∙ ap (λ (r : List Way). some_row r) (ap (λ (k : ℕ). get_or ways k row) (sym at_j) ∙ (sym row_is ∙ sym same_row));
      is = ap (λ (k : ℕ). (get_or bundles k b).frames.entries) (sym at_i) ∙ sym same;
    }

pub row_count : (plant : Plant) (bundles : List Bundle) (ways : List (List Way)) (device : ℕ) (entries : List Entry) (own : List Way)
    → IsWayPlan plant bundles ways → IsRow bundles ways device entries own → length own ≡ length entries
row_count plant bundles ways device entries own w r = (w.ways.each device r.b own r.held r.rows).count ∙ ap length r.is

pub placed_at : (plant : Plant) (bundles : List Bundle) (ways : List (List Way)) (device n : ℕ) (entries : List Entry) (own : List Way) (d : Entry) (v : Way)
    → IsWayPlan plant bundles ways → IsRow bundles ways device entries own → n < length entries
    → IsPlaced plant bundles device (get_or entries n d) (get_or own n v)
placed_at plant bundles ways device n entries own d v w r less =
    let count = row_count plant bundles ways device entries own w r in
    placed plant bundles ways device n r.b own (get_or entries n d) (get_or own n v) w r.held r.rows
    (ap (λ (xs : List Entry). slice_get xs n) r.is ∙ slice_get-get_or entries n d less) (slice_get-get_or own n v (omega (arith, count)))

-- The steps of the scan of a port.
pub port_more : (Holds : ℕ → Type 0) (entries : List Entry) (n : ℕ) (d : Entry) → HoldsUpTo Holds entries n → n < length entries
    → Holds (get_or entries n d).frame.0 → HoldsUpTo Holds entries (n + 1)
port_more Holds entries n d up less here = up_to_more Holds entries n (get_or entries n d) up (slice_get-get_or entries n d less) here

pub port_holds : (plant : Plant) (bundles : List Bundle) (ways : List (List Way)) (device port n : ℕ) (entries : List Entry) (own : List Way)
    (Holds : ℕ → ℕ → ℕ → Type 0) → ((frame : ℕ) → entry_at (setup_of plant bundles) device frame ≡ None → Holds device port frame)
    → IsRow bundles ways device entries own → length entries ≤ n → HoldsUpTo (Holds device port) entries n
    → (at : Place) → IsAt device port at → Holds at.device.0 at.port at.frame
port_holds plant bundles ways device port n entries own Holds absent r all up at (of, at_port) =
    let every = all_frames plant bundles device r.b n (Holds device port) absent r.held (omega (arith, ap length r.is))
    (subst (λ (xs : List Entry). HoldsUpTo (Holds device port) xs n) (sym r.is) up) in
    subst (λ (k : ℕ). Holds k at.port at.frame) (sym of) (subst (λ (q : ℕ). Holds device q at.frame) (sym at_port) (every at.frame))

frame_less : (at : Place) (device port frame : ℕ) → IsLess at (record { device = record { 0 = device }; port = port; frame = frame; other = 0 })
    → at.device.0 ≡ device → at.port ≡ port → at.frame < frame
frame_less at device port frame (inl l) of at_port = absurd (omega arith)
frame_less at device port frame (inr (same, inl l)) of at_port = absurd (omega arith)
frame_less at device port frame (inr (same, inr (one, inl l))) of at_port = l
frame_less at device port frame (inr (same, inr (one, inr (two, l)))) of at_port = absurd (omega arith)

pub port_breaks : (plant : Plant) (bundles : List Bundle) (ways : List (List Way)) (device : DevId) (port n : ℕ) (entries : List Entry) (own : List Way)
    (d : Entry) (Holds : ℕ → ℕ → ℕ → Type 0)
    → ((frame : ℕ) → entry_at (setup_of plant bundles) device.0 frame ≡ None → Holds device.0 port frame)
    → IsPlan plant bundles → IsRow bundles ways device.0 entries own → n < length entries → HoldsUpTo (Holds device.0 port) entries n
    → ¬ Holds device.0 port (get_or entries n d).frame.0
    → IsLeastOf (IsAt device.0 port) (AtFrame Holds) (record { device = device; port = port; frame = (get_or entries n d).frame.0; other = 0 })
port_breaks plant bundles ways device port n entries own d Holds absent plan r less up breaks =
    let lesser = lesser_frames plant bundles device.0 r.b n (get_or entries n d) (Holds device.0 port) absent plan r.held
    (ap (λ (xs : List Entry). slice_get xs n) r.is ∙ slice_get-get_or entries n d less)
    (subst (λ (xs : List Entry). HoldsUpTo (Holds device.0 port) xs n) (sym r.is) up) in
    record {
      within = (refl, refl);
      breaks = breaks;
      least = λ at (of, at_port) before.
          subst (λ (k : ℕ). Holds k at.port at.frame) (sym of)
          (subst (λ (q : ℕ). Holds device.0 q at.frame) (sym at_port)
          (lesser at.frame (frame_less at device.0 port (get_or entries n d).frame.0 before of at_port)));
    }

-- a device's bundle, as indexing gives it
pub held_at : (bundles : List Bundle) (device i : ℕ) (b : Bundle) → device < length bundles → i ≡ device
    → slice_get bundles device ≡ Some (get_or bundles i b)
held_at bundles device i b there at_i = slice_get-get_or bundles device b there ∙ ap (λ (k : ℕ). some_bundle (get_or bundles k b)) (sym at_i)
