-- The ways of a plan whose entries form trees.
use Rattle.std.proofs.Common.{◌≡◌, ◌≢◌, ◌<◌, ℕ, inl, inr, List, [], Option, Some, None, length, get_or, map, option_map, slice_get, refl, sym, ◌∙◌, ap, subst, arith}
use Rattle.std.proofs.lemmas.List.{length-map}
use Rattle.std.proofs.lemmas.Option.{slice_get-map, slice_get_cases, slice_get_read, get_or_from_slice_get}
use Rattle.irt_base.specs.declared.blocks.Bundle.{Bundle}
use Rattle.irt_base.specs.declared.blocks.Entry.{Entry}
use Rattle.irt_base.specs.declared.plants.Plant.{Plant}
use Rattle.plan_rules.specs.Tree.{AreTrees, demand_of}
use Rattle.plan_rules.specs.Frames.{IsTreeAt}
use Rattle.plan_rules.specs.Plan.{setup_of}
use Rattle.plan_rules.specs.Ways.{IsWay, AreWays}
use Rattle.plan_rules.specs.declared.place.Place.{Place}
use Rattle.plan_rules.specs.declared.way.Way.{Way}
use Rattle.irt_window.specs.Marks.{way_in, IsMarked, AreMarks, AreStuck}
use Rattle.irt_window.specs.Plans.{IsNet, setup_in, Stands}
use Rattle.irt_window.specs.Trees.{AreFound, AreRowsOf}
use Rattle.irt_window.specs.declared.marks.Marks.{Marks}
use Rattle.irt_window.specs.declared.net.Net.{Net}
use Rattle.irt_window.proofs.InTree.{demand_frame, reached_marked}
use Rattle.irt_window.proofs.Places.{stands_at}
use Rattle.irt_window.proofs.Steps.{entry_there}

-- where the entries form trees, each has a way
found_here : (net : Net) (marks : Marks) (device n : ℕ) (e : Entry) → IsNet net → AreStuck net marks → AreTrees (setup_in net)
    → Stands net.bundles.now device n e → way_in marks.rows.items device n ≢ None
found_here net marks device n e is stuck trees s none =
    let at = stands_at net.plant.now net.bundles.now device n e is.plan s in
    let (demand, asked, tree) = (trees device e.frame.0).each e at in
    let named = demand_frame net.plant.now e.frame.0 demand asked in
    reached_marked net marks demand demand.frame.0 is stuck
    (subst (λ (f : ℕ). demand_of net.plant.now f ≡ Some demand) (sym named) asked) device tree.reached n e s (sym named) none

pub all_found : (net : Net) (marks : Marks) → IsNet net → AreMarks net marks → AreStuck net marks → AreTrees (setup_in net) → AreFound marks.rows.items
all_found net marks is ms stuck trees =
    λ device n within placed.
    elim (slice_get_cases net.bundles.now device).1 [
      | inl (b, there, held, same) ↦
          let (e, s) = entry_there net device n b held (omega (arith, ms.counts device b held)) in found_here net marks device n e is stuck trees s
      | inr (off, none) ↦ absurd (omega (arith, ms.count))
    ]

way_of_mark : (net : Net) (left device : ℕ) (e : Entry) (way : Way) → AreTrees (setup_in net) → IsMarked net left device e way
    → IsWay (setup_in net) device e way
way_of_mark net left device e way trees m =
    let s = m.sound trees in
    record {
      sends = s.sends;
      coming = s.coming;
      provided = s.provided;
      ordered = m.ordered;
      small = omega (arith, m.small);
      small_latest = omega (arith, m.small_latest);
    }

pub ways_found : (net : Net) (marks : Marks) (ways : List (List Way)) → IsNet net → AreMarks net marks → AreTrees (setup_in net)
    → AreRowsOf marks.rows.items ways → AreWays net.plant.now net.bundles.now ways
ways_found net marks ways is ms trees rows_are =
    let whole : List Way → List (Option Way) = λ row. map (λ (way : Way). Some way) row in
    record {
      count = sym (length-map ways whole) ∙ ap length rows_are ∙ ms.count;
      each = λ device b row held row_is.
          let row_there : slice_get marks.rows.items device ≡ Some (whole row) =
          subst (λ (rows : List (List (Option Way))). slice_get rows device ≡ Some (whole row)) rows_are
          (slice_get-map whole ways device ∙ ap (λ (o : Option (List Way)). option_map whole o) row_is) in
          let read : get_or marks.rows.items device [] ≡ whole row = get_or_from_slice_get marks.rows.items device (whole row) [] row_there in
          record {
            count = sym (length-map row (λ (way : Way). Some way)) ∙ ap length (sym read) ∙ ms.counts device b held;
            each = λ n e way e_is way_is.
                let at : get_or (whole row) n None ≡ Some way =
                get_or_from_slice_get (whole row) n (Some way) None
                (slice_get-map (λ (way : Way). Some way) row n ∙ ap (λ (o : Option Way). option_map (λ (way : Way). Some way) o) way_is) in
                let found : way_in marks.rows.items device n ≡ Some way = ap (λ (r : List (Option Way)). get_or r n None) read ∙ at in
                way_of_mark net marks.left device e way trees
                (ms.each device n e way (record { bundle = b; held = held; item = e_is }) found);
          };
    }

pub row_found : (rows : List (List (Option Way))) (index : ℕ) (row slice : List (Option Way)) → AreFound rows → index < length rows
    → row ≡ get_or rows index row → slice ≡ row → (n : ℕ) → n < length slice → get_or slice n None ≢ None
row_found rows index row slice found within is same n placed none =
    let read : get_or rows index [] ≡ slice =
    get_or_from_slice_get rows index row [] (slice_get_read rows (length rows) index row refl within is) ∙ sym same in
    found index n within (rw read placed) (ap (λ (r : List (Option Way)). get_or r n None) read ∙ none)

-- V2 at each place is V2 at each device and frame
pub trees_everywhere : (plant : Plant) (bundles : List Bundle) → ((at : Place) → IsTreeAt plant bundles at) → AreTrees (setup_of plant bundles)
trees_everywhere plant bundles all = λ device frame. all (record { device = record { 0 = device }; port = 0; frame = frame; other = 0 })
