-- What is answered for the line that the bytes begin with.
use Rattle.std.proofs.Common.{◌≡◌, ◌<◌, ◌≤◌, ◌+◌, ◌^◌, ℕ, Bool, true, false, List, ◌++◌, length, Some, None, Result, Ok, Err, refl, sym, ◌∙◌, ap, subst, arith, inl, inr}
use Rattle.std.specs.List.{AllByRecursion}
use Rattle.std.specs.Prelude.{IfErr}
use Rattle.std.proofs.lemmas.Option.{none-some}
use Rattle.irt_base.specs.declared.blocks.Bundle.{Bundle}
use Rattle.irt_base.specs.declared.plants.Plant.{Plant}
use Rattle.irt_world.specs.Forwardings.{forwardings}
use Rattle.irt_world.specs.Rows.{IsRowOf}
use Rattle.irt_world.specs.declared.forwardings.Forwarding.{Forwarding}
use Rattle.irt_world.specs.declared.rows.Row.{Row}
use Rattle.world_file.specs.Reading.{empty_draft, line_read, next_place, verdict_of}
use Rattle.world_file.specs.Text.{Line, line_of, line_text}
use Rattle.world_file.specs.Wrong.{HasCounts, IsLineRefusal, IsWrongLine}
use Rattle.world_file.specs.declared.draft.Draft.{Draft}
use Rattle.world_file.specs.declared.fault.WorldFault.{WorldFault}
use Rattle.world_file.specs.declared.fault.WorldFault.TheVariants.{Refused}
use Rattle.world_file.proofs.Judged.{Judgement, judged}
use Rattle.world_file.proofs.WholeLine.{line_again, line_taken, line_with}

-- where nothing is read, no line stands
pub no_line : (plant : Plant) (fs : List Forwarding) (d : Draft) (bytes : List ℕ) → line_read plant.devices fs (length plant.links) d bytes ≡ None → IsWrongLine plant fs bytes 0
no_line plant fs d bytes none = inl (
  refl,
  λ l begins.
      none-some (line_with plant.devices fs (length plant.links) l d, begins.rest)
      (sym none ∙ ap (line_read plant.devices fs (length plant.links) d) begins.text
      ∙ line_again plant.devices fs (length plant.links) l d begins.rest (record { errors = begins.counts.errors; bridges = begins.counts.bridges })),
)

ok_same : {A E : Type 0} (x y : A) → ◌≡◌ {A = Result A E} (Ok x) (Ok y) → x ≡ y
ok_same x y same = cc

err_same : {A E : Type 0} (x y : E) → ◌≡◌ {A = Result A E} (Err x) (Err y) → x ≡ y
err_same x y same = cc

ok_err : {A E P : Type 0} (x : A) (e : E) → ◌≡◌ {A = Result A E} (Ok x) (Err e) → P
ok_err x e same = absurd (cc)

-- the bytes begin with a line, and the row or the refusal is that of the line
pub record LineFacts (plant : Plant) (fs : List Forwarding) (bytes : List ℕ) (d : Draft) (rest : List ℕ) : Type 0 where
  pub small : next_place d.row ≤ length plant.devices + length fs + length plant.links + 1
  pub found : (line : ℕ) (row : Row) → verdict_of line d ≡ Ok row → (bundles : List Bundle) → fs ≡ forwardings plant bundles →
      IsRowOf plant bundles row × (bytes ≡ line_text (line_of row) ++ rest)
  pub refused : (line : ℕ) (e : WorldFault) → verdict_of line d ≡ Err e → IsLineRefusal plant fs bytes line e

facts_of : (plant : Plant) (fs : List Forwarding) (bytes : List ℕ) (d : Draft) (rest : List ℕ) (l : Line) (wrong : Bool) → d.is_wrong ≡ wrong → HasCounts plant fs l →
    bytes ≡ line_text l ++ rest → Judgement plant fs l d → LineFacts plant fs bytes d rest
facts_of plant fs bytes d rest l true is counts text j = record {
  small = j.small;
  found = λ line row verdict. ok_err row (Refused line (next_place d.row)) (sym (rw is at verdict));
  refused = λ line e verdict.
      subst (IsLineRefusal plant fs bytes line) (err_same (Refused line (next_place d.row)) e (rw is at verdict))
      (refl, inr (l, record { counts = counts; rest = rest; text = text }, j.wrong is));
}
facts_of plant fs bytes d rest l false is counts text j = record {
  small = j.small;
  found = λ line row verdict bundles numbered.
      let same : d.row ≡ row = ok_same d.row row (rw is at verdict) in
      let kept = j.right is in
      (subst (IsRowOf plant bundles) same (kept.fits bundles numbered), text ∙ ap (λ k. line_text k ++ rest) (sym kept.line ∙ ap line_of same));
  refused = λ line e verdict. ok_err d.row e (rw is at verdict);
}

pub line_facts : (plant : Plant) (fs : List Forwarding) (start : Draft) (bytes : List ℕ) (d : Draft) (rest : List ℕ) → start ≡ empty_draft → length plant.links ≤ 2 ^ 16 →
    AllByRecursion (λ f. f.bmax < 2 ^ 32) fs → line_read plant.devices fs (length plant.links) start bytes ≡ Some (d, rest) → LineFacts plant fs bytes d rest
line_facts plant fs start bytes d rest empty few bounds read =
    let is = line_taken plant.devices fs (length plant.links) start bytes (d, rest) read in
    let counts : HasCounts plant fs is.l = record { errors = is.counts.errors; bridges = is.counts.bridges } in
    let same : line_with plant.devices fs (length plant.links) is.l empty_draft ≡ d =
    ap (line_with plant.devices fs (length plant.links) is.l) (sym empty) ∙ sym is.draft in
    facts_of plant fs bytes d rest is.l d.is_wrong refl counts is.text
    (subst (Judgement plant fs is.l) same (judged plant fs is.l counts (omega (arith, few)) bounds))

-- a refusal that is passed on
pub refusal_passed : {A : Type 0} (plant : Plant) (fs : List Forwarding) (bytes : List ℕ) (line : ℕ) (r : Result A WorldFault) (e f : WorldFault) → r ≡ Err e → e ≡ f →
    IsLineRefusal plant fs bytes line f → IfErr r (IsLineRefusal plant fs bytes line)
refusal_passed plant fs bytes line r e f is same refusal = rw (is, same) refusal
