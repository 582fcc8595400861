-- The tables of entries and ways, and what stands in them.
use Rattle.std.proofs.Common.{◌≡◌, ◌≢◌, ◌<◌, ◌≤◌, ◌^◌, ℕ, inl, inr, List, Option, Some, None, length, get_or, map, option_map, slice_get, pos, refl, sym, ◌∙◌, ap, subst, arith}
use Rattle.std.proofs.lemmas.List.{length-map}
use Rattle.std.proofs.lemmas.Option.{none-some, same_Some, slice_get-map, slice_get_within, slice_get_cases, slice_get_read, slice_get-get_or, get_or_from_slice_get}
use Rattle.std.specs.List.Sorted.{IsStrictlyIncreasing}
use Rattle.irt_base.specs.Valid.{IsBundle, frames_of}
use Rattle.irt_base.specs.declared.blocks.Bundle.{Bundle}
use Rattle.irt_base.specs.declared.blocks.Entry.{Entry}
use Rattle.irt_base.specs.declared.plants.Plant.{Plant}
use Rattle.plan_rules.specs.Plan.{IsPlan, setup_of}
use Rattle.plan_rules.specs.Way.{Setup, entry_at, Leaves, IsParent}
use Rattle.plan_rules.specs.SendWindow.{HasWindow}
use Rattle.plan_rules.specs.Ways.{AreWays, window_of}
use Rattle.plan_rules.specs.declared.way.Way.{Way}
use Rattle.irt_window.specs.Tables.{AreBeside, AreAscending, AreOrdered}
use Rattle.irt_window.specs.Search.{entry_in, IsEntryIndex}
use Rattle.irt_window.specs.Windows.{IsEntryWay, IsWindow, IsSource}
use Rattle.irt_window.specs.declared.windows.Window.{Window}
use Rattle.irt_window.proofs.Places.{each_bundle, entry_at_is}

abbrev pub entries_in : List Bundle → List (List Entry)
entries_in bundles = map (λ (b : Bundle). b.frames.entries) bundles

-- a row of the entries is a bundle's
pub record HasRow (bundles : List Bundle) (device : ℕ) (row : List Entry) : Type 0 where
  pub b : Bundle
  pub held : slice_get bundles device ≡ Some b
  pub same : b.frames.entries ≡ row

row_in : (bundles : List Bundle) (device : ℕ) (row : List Entry) (held : Option Bundle) → held ≡ slice_get bundles device
    → slice_get (entries_in bundles) device ≡ Some row → HasRow bundles device row
row_in bundles device row None none is =
    absurd (none-some row (ap (λ (o : Option Bundle). option_map (λ (b : Bundle). b.frames.entries) o) none
    ∙ sym (slice_get-map (λ (b : Bundle). b.frames.entries) bundles device) ∙ is))
row_in bundles device row (Some b) held is =
    record {
      b = b;
      held = sym held;
      same = same_Some _ _ (ap (λ (o : Option Bundle). option_map (λ (b : Bundle). b.frames.entries) o) held
          ∙ sym (slice_get-map (λ (b : Bundle). b.frames.entries) bundles device) ∙ is);
    }

pub has_row : (bundles : List Bundle) (device : ℕ) (row : List Entry) (entries : List (List Entry)) → entries ≡ entries_in bundles
    → slice_get entries device ≡ Some row → HasRow bundles device row
has_row bundles device row entries same is =
    row_in bundles device row (slice_get bundles device) refl (subst (λ (es : List (List Entry)). slice_get es device ≡ Some row) same is)

-- what stands at an index below the length
there_is : {A : Type 0} (xs : List A) (i : ℕ) → i < length xs → (x : A) × (slice_get xs i ≡ Some x)
there_is xs i within =
    elim (slice_get_cases xs i).1 [ inl (x, below, at, same) ↦ (x, at) | inr (past, none) ↦ absurd (omega (arith, past)) ]

pub beside_ways : (plant : Plant) (bundles : List Bundle) (entries : List (List Entry)) (ways : List (List Way)) → entries ≡ entries_in bundles
    → AreWays plant bundles ways → AreBeside entries ways
beside_ways plant bundles entries ways same are = (
  are.count ∙ sym (ap length same ∙ length-map bundles (λ (b : Bundle). b.frames.entries)),
  λ device row beside row_is beside_is.
      let h = has_row bundles device row entries same row_is in
      (are.each device h.b beside h.held beside_is).count ∙ ap length h.same,
)

pub ascending_rows : (plant : Plant) (bundles : List Bundle) (entries : List (List Entry)) → entries ≡ entries_in bundles → IsPlan plant bundles
    → AreAscending entries
ascending_rows plant bundles entries same plan =
    λ device row row_is.
    let h = has_row bundles device row entries same row_is in
    subst (λ (r : List Entry). IsStrictlyIncreasing (frames_of r)) h.same (each_bundle IsBundle bundles device h.b plan.blocks h.held).frames.ascending

pub ordered_ways : (plant : Plant) (bundles : List Bundle) (ways : List (List Way)) → AreWays plant bundles ways → AreOrdered ways
ordered_ways plant bundles ways are =
    λ device n row way row_is way_is.
    let within : device < length bundles = omega (arith, are.count, slice_get_within ways device row row_is) in
    let (b, held) = there_is bundles device within in
    let here = are.each device b row held row_is in
    let placed : n < length b.frames.entries = omega (arith, here.count, slice_get_within row n way way_is) in
    let (e, at) = there_is b.frames.entries n placed in
    let is = here.each n e way at way_is in
    (is.ordered, is.small)

-- what a read of a row gives
pub row_read : {A : Type 0} (xs slice : List A) (index device : ℕ) (row inner : A) → slice ≡ xs → index ≡ device → index < length xs
    → row ≡ get_or slice index row → inner ≡ row → slice_get xs device ≡ Some inner
row_read {A} xs slice index device row inner same index_is within is inner_is =
    subst (λ (i : ℕ). slice_get xs i ≡ Some inner) index_is
    (slice_get_read xs (length xs) index row refl within (is ∙ ap (λ (ys : List A). get_or ys index row) same) ∙ ap Some (sym inner_is))

pub no_entry : (plant : Plant) (bundles : List Bundle) (entries : List (List Entry)) (device frame : ℕ) (row : List Entry)
    → entries ≡ entries_in bundles → slice_get entries device ≡ Some row → entry_in row frame ≡ None
    → entry_at (setup_of plant bundles) device frame ≡ None
no_entry plant bundles entries device frame row same row_is none =
    let h = has_row bundles device row entries same row_is in
    entry_at_is plant bundles device frame h.b h.held ∙ ap (λ (es : List Entry). entry_in es frame) h.same ∙ none

-- a way beside an entry
pub way_beside : (entries : List (List Entry)) (ways : List (List Way)) (device n : ℕ) (row : List Entry) (beside : List Way) (e : Entry) (z : Way)
    → AreBeside entries ways → slice_get entries device ≡ Some row → slice_get ways device ≡ Some beside → slice_get row n ≡ Some e
    → slice_get beside n ≡ Some (get_or beside n z)
way_beside entries ways device n row beside e z are row_is beside_is at =
    slice_get-get_or beside n z (omega (arith, are.1 device row beside row_is beside_is, slice_get_within row n e at))

pub entry_found : (plant : Plant) (bundles : List Bundle) (entries : List (List Entry)) (ways : List (List Way)) (device frame n : ℕ) (row : List Entry)
    (beside : List Way) (z : Entry) (zw : Way) → entries ≡ entries_in bundles → AreWays plant bundles ways → AreBeside entries ways
    → slice_get entries device ≡ Some row → slice_get ways device ≡ Some beside → IsEntryIndex row frame (Some n)
    → IsEntryWay (setup_of plant bundles) device frame (get_or row n z) (get_or beside n zw)
entry_found plant bundles entries ways device frame n row beside z zw same are besides row_is beside_is (e, at, found, named) =
    let h = has_row bundles device row entries same row_is in
    let read : get_or row n z ≡ e = get_or_from_slice_get row n e z at in
    let way_at = way_beside entries ways device n row beside e zw besides row_is beside_is at in
    let item : slice_get h.b.frames.entries n ≡ Some e = ap (λ (es : List Entry). slice_get es n) h.same ∙ at in
    subst (λ (x : Entry). IsEntryWay (setup_of plant bundles) device frame x (get_or beside n zw)) (sym read)
    (record {
      stands = entry_at_is plant bundles device frame h.b h.held ∙ ap (λ (es : List Entry). entry_in es frame) h.same ∙ found;
      named = named;
      is_way = (are.each device h.b beside h.held beside_is).each n e (get_or beside n zw) item way_at;
    })

pub way_ordered : (entries : List (List Entry)) (ways : List (List Way)) (device frame n : ℕ) (row : List Entry) (beside : List Way) (zw : Way)
    → AreBeside entries ways → AreOrdered ways → slice_get entries device ≡ Some row → slice_get ways device ≡ Some beside
    → IsEntryIndex row frame (Some n) → ((get_or beside n zw).lo ≤ (get_or beside n zw).hi) × ((get_or beside n zw).hi < 2 ^ 39)
way_ordered entries ways device frame n row beside zw besides ordered row_is beside_is (e, at, found, named) =
    ordered device n beside (get_or beside n zw) beside_is (way_beside entries ways device n row beside e zw besides row_is beside_is at)

-- the answers on a window and on a parent
pub no_window : (setup : Setup) (device frame : ℕ) → entry_at setup device frame ≡ None → (e : Entry) (port : ℕ) → entry_at setup device frame ≡ Some e
    → Leaves e port → ⊥
no_window setup device frame none e port at leaves = none-some e (sym none ∙ at)

pub idle_window : (setup : Setup) (device frame : ℕ) (e : Entry) (way : Way) → IsEntryWay setup device frame e way → (((port : ℕ) × Leaves e port) → ⊥)
    → (f : Entry) (port : ℕ) → entry_at setup device frame ≡ Some f → Leaves f port → ⊥
idle_window setup device frame e way is idle f port at leaves =
    idle (port, subst (λ (x : Entry). Leaves x port) (same_Some f e (sym at ∙ is.stands)) leaves)

pub its_window : (setup : Setup) (device frame : ℕ) (e : Entry) (way : Way) (w : Window) → IsEntryWay setup device frame e way
    → ((port : ℕ) × Leaves e port) → w ≡ record { lo = pos way.lo; hi = pos way.hi; anchor = way.anchor } → IsWindow setup device frame w
its_window setup device frame e way w is (port, leaves) w_is =
    rw w_is (record {
      e = e;
      port = port;
      window = window_of way;
      stands = is.stands;
      leaves = leaves;
      sends = subst (λ (f : ℕ). HasWindow setup f device (window_of way)) is.named is.is_way.sends;
      lo = refl;
      hi = refl;
      anchor = refl;
    })

pub no_source : (setup : Setup) (device frame : ℕ) → entry_at setup device frame ≡ None → (e : Entry) → entry_at setup device frame ≡ Some e → e.rx_port ≡ 0
no_source setup device frame none e at = absurd (none-some e (sym none ∙ at))

pub own_source : (setup : Setup) (device frame : ℕ) (e : Entry) (way : Way) → IsEntryWay setup device frame e way → e.rx_port ≡ 0 → (f : Entry)
    → entry_at setup device frame ≡ Some f → f.rx_port ≡ 0
own_source setup device frame e way is none f at = ap (λ (x : Entry). x.rx_port) (same_Some f e (sym at ∙ is.stands)) ∙ none

pub its_source : (setup : Setup) (device frame : ℕ) (e : Entry) (way : Way) → IsEntryWay setup device frame e way → e.rx_port ≢ 0
    → IsSource setup device frame (way.parent, way.port)
its_source setup device frame e way is some =
    let coming = is.is_way.coming (omega arith) in
    record {
      e = e;
      stands = is.stands;
      comes = subst (λ (f : ℕ). IsParent setup f device e way.parent.0 way.port.0) is.named coming.comes;
    }
