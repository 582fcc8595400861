-- What the draft of a whole line says of the line.
use Rattle.std.proofs.Common.{◌≡◌, ◌<◌, ◌≤◌, ◌+◌, pos, true, false, List, ◌∷◌, map, length, slice_get, refl, sym, ◌∙◌, ap, subst, arith, length-append, inl, inr}
use Rattle.std.specs.List.{AllByRecursion}
use Rattle.std.proofs.lemmas.List.{length-map}
use Rattle.irt_base.specs.declared.blocks.Bundle.{Bundle}
use Rattle.irt_base.specs.declared.plants.Plant.{Plant}
use Rattle.irt_world.specs.Forwardings.{forwardings}
use Rattle.irt_world.specs.Rows.{IsError, IsRowOf}
use Rattle.irt_world.specs.declared.forwardings.Forwarding.{Forwarding}
use Rattle.irt_world.specs.declared.rows.Row.{Row}
use Rattle.world_file.specs.Reading.{empty_draft, next_place, stopped, with_delay}
use Rattle.world_file.specs.Text.{Line, line_of}
use Rattle.world_file.specs.Wrong.{HasCounts, IsFirstWrongPlace}
use Rattle.world_file.specs.declared.draft.Draft.{Draft}
use Rattle.world_file.specs.declared.number.TheConstants.{FAR}
use Rattle.world_file.proofs.FirstWrong.{all_from_each, ascends_from, delay_at, few_numbers_from, first_delay, first_error, first_link, numbers_below}
use Rattle.world_file.proofs.Kept.{AllDelays, AllErrors, AllLinks, DelaysUpTo, ErrorsUpTo, LinksUpTo, delay_stays, delays_kept, each_stays, errors_kept, links_kept, links_stay, more_delays, more_errors, more_links}
use Rattle.world_file.proofs.LineText.{links_with}
use Rattle.world_file.proofs.WholeLine.{delays_with, line_with}

-- the row is that of the line, and in range
pub record IsKept (plant : Plant) (fs : List Forwarding) (l : Line) (row : Row) : Type 0 where
  pub line : line_of row ≡ l
  pub fits : (bundles : List Bundle) → fs ≡ forwardings plant bundles → IsRowOf plant bundles row

pub record Judgement (plant : Plant) (fs : List Forwarding) (l : Line) (d : Draft) : Type 0 where
  pub small : next_place d.row ≤ length plant.devices + length fs + length plant.links + 1
  pub right : d.is_wrong ≡ false → IsKept plant fs l d.row
  pub wrong : d.is_wrong ≡ true → IsFirstWrongPlace plant fs l (next_place d.row)

is_different : true ≡ false → ⊥
is_different is = cc

judged_wrong : (plant : Plant) (fs : List Forwarding) (l : Line) (d : Draft) → d.is_wrong ≡ true → next_place d.row ≤ length plant.devices + length fs + length plant.links + 1 →
    IsFirstWrongPlace plant fs l (next_place d.row) → Judgement plant fs l d
judged_wrong plant fs l d is small first = record { small = small; right = λ fine. absurd (is_different (sym is ∙ fine)); wrong = λ _. first }

judged_right : (plant : Plant) (fs : List Forwarding) (l : Line) (d : Draft) → d.is_wrong ≡ false → next_place d.row ≤ length plant.devices + length fs + length plant.links + 1 →
    IsKept plant fs l d.row → Judgement plant fs l d
judged_right plant fs l d fine small kept = record { small = small; right = λ _. kept; wrong = λ is. absurd (is_different (sym is ∙ fine)) }

by_errors : (plant : Plant) (fs : List Forwarding) (l : Line) → HasCounts plant fs l → ErrorsUpTo plant.devices l.errors empty_draft →
    Judgement plant fs l (line_with plant.devices fs (length plant.links) l empty_draft)
by_errors plant fs l counts e =
    let links = length plant.links in
    let end : Draft = stopped (more_errors empty_draft e.before) in
    let same : line_with plant.devices fs links l empty_draft ≡ end =
    ap (λ d. links_with links l.cuts (delays_with fs l d)) e.draft
    ∙ ap (links_with links l.cuts) (each_stays with_delay delay_stays fs l.bridges end refl)
    ∙ links_stay links l.cuts end refl in
    let long : length l.errors ≡ length e.before + length (e.z ∷ e.after) = ap length e.are ∙ length-append e.before (e.z ∷ e.after) in
    subst (Judgement plant fs l) (sym same)
    (judged_wrong plant fs l end refl (omega (arith, long, counts.errors)) (first_error plant fs l e.before e.z e.after (next_place end.row) e.are e.right e.wrong (omega arith)))

by_delays : (plant : Plant) (fs : List Forwarding) (l : Line) → HasCounts plant fs l → AllErrors plant.devices l.errors empty_draft →
    DelaysUpTo fs l.bridges (more_errors empty_draft l.errors) → Judgement plant fs l (line_with plant.devices fs (length plant.links) l empty_draft)
by_delays plant fs l counts e b =
    let links = length plant.links in
    let end : Draft = stopped (more_delays (more_errors empty_draft l.errors) b.before) in
    let same : line_with plant.devices fs links l empty_draft ≡ end =
    ap (λ d. links_with links l.cuts (delays_with fs l d)) e.draft ∙ ap (links_with links l.cuts) b.draft ∙ links_stay links l.cuts end refl in
    let long : length l.bridges ≡ length (map (λ n. pos n) b.before) + length (b.z ∷ b.after) = ap length b.are ∙ length-append (map (λ n. pos n) b.before) (b.z ∷ b.after) in
    subst (Judgement plant fs l) (sym same)
    (judged_wrong plant fs l end refl (omega (arith, long, length-map b.before (λ n. pos n), counts.errors, counts.bridges))
    (first_delay plant fs l b.before b.f b.z b.after (next_place end.row) e.right b.are b.right b.forwarding b.wrong (omega arith)))

by_links : (plant : Plant) (fs : List Forwarding) (l : Line) → HasCounts plant fs l → AllErrors plant.devices l.errors empty_draft →
    (b : AllDelays fs l.bridges (more_errors empty_draft l.errors)) → LinksUpTo plant l.cuts (more_delays (more_errors empty_draft l.errors) b.delays) →
    Judgement plant fs l (line_with plant.devices fs (length plant.links) l empty_draft)
by_links plant fs l counts e b c =
    let links = length plant.links in
    let end : Draft = stopped (more_links (more_delays (more_errors empty_draft l.errors) b.delays) c.before) in
    let same : line_with plant.devices fs links l empty_draft ≡ end =
    ap (λ d. links_with links l.cuts (delays_with fs l d)) e.draft ∙ ap (links_with links l.cuts) b.draft ∙ c.draft in
    let delays_long : length l.bridges ≡ length b.delays = ap length b.are ∙ length-map b.delays (λ n. pos n) in
    let few : length c.before + 0 ≤ length plant.links = few_numbers_from 0 links c.before c.right (omega arith) in
    subst (Judgement plant fs l) (sym same)
    (judged_wrong plant fs l end refl (omega (arith, few, delays_long, counts.errors, counts.bridges))
    (first_link plant fs l b.delays c.before c.z c.after (next_place end.row) e.right b.are b.right c.are c.right c.wrong (omega (arith, delays_long))))

by_none : (plant : Plant) (fs : List Forwarding) (l : Line) → HasCounts plant fs l → AllErrors plant.devices l.errors empty_draft →
    (b : AllDelays fs l.bridges (more_errors empty_draft l.errors)) → AllLinks plant l.cuts (more_delays (more_errors empty_draft l.errors) b.delays) →
    Judgement plant fs l (line_with plant.devices fs (length plant.links) l empty_draft)
by_none plant fs l counts e b c =
    let links = length plant.links in
    let end : Draft = more_links (more_delays (more_errors empty_draft l.errors) b.delays) c.cuts in
    let same : line_with plant.devices fs links l empty_draft ≡ end =
    ap (λ d. links_with links l.cuts (delays_with fs l d)) e.draft ∙ ap (links_with links l.cuts) b.draft ∙ c.draft in
    let delays_long : length l.bridges ≡ length b.delays = ap length b.are ∙ length-map b.delays (λ n. pos n) in
    let few : length c.cuts + 0 ≤ length plant.links = few_numbers_from 0 links c.cuts c.right (omega arith) in
    subst (Judgement plant fs l) (sym same)
    (judged_right plant fs l end refl (omega (arith, few, delays_long, counts.errors, counts.bridges))
    (record {
      line = ap (λ ns. record { errors = l.errors; bridges = ns; cuts = map (λ n. pos n) c.cuts }) (sym b.are)
          ∙ ap (λ ns. record { errors = l.errors; bridges = l.bridges; cuts = ns }) (sym c.are);
      fits = λ bundles numbered. record {
        error_count = counts.errors;
        errors = all_from_each IsError l.errors e.right;
        bridge_count = sym delays_long ∙ counts.bridges ∙ ap length numbered;
        bridges = λ n f delay there is. delay_at fs b.delays n f delay b.right (ap (λ gs. slice_get gs n) numbered ∙ there) is;
        links = all_from_each (λ n. n < links) c.cuts (numbers_below 0 links c.cuts c.right);
        ascending = ascends_from 0 links c.cuts c.right;
      };
    }))

pub judged : (plant : Plant) (fs : List Forwarding) (l : Line) → HasCounts plant fs l → length plant.links < FAR → AllByRecursion (λ f. f.bmax < FAR) fs →
    Judgement plant fs l (line_with plant.devices fs (length plant.links) l empty_draft)
judged plant fs l counts few bounds =
    elim (errors_kept plant.devices l.errors empty_draft refl counts.errors) [
      | inl e ↦
          elim (delays_kept fs l.bridges (more_errors empty_draft l.errors) refl counts.bridges bounds) [
            | inl b ↦
                elim (links_kept plant l.cuts (more_delays (more_errors empty_draft l.errors) b.delays) refl few) [
                  | inl c ↦ by_none plant fs l counts e b c
                  | inr c ↦ by_links plant fs l counts e b c
                ]
            | inr b ↦ by_delays plant fs l counts e b
          ]
      | inr e ↦ by_errors plant fs l counts e
    ]
