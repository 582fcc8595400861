-- Reading the lines of a file one after the other.
use Rattle.std.proofs.Common.{◌≡◌, ◌<◌, ◌+◌, ℕ, List, [], ◌∷◌, ◌++◌, length, All, Result, Err, sym, ◌∙◌, ap, subst, arith, append_assoc, inl, length-append}
use Rattle.std.specs.Prelude.{IfErr}
use Rattle.std.proofs.lemmas.List.{append-nil}
use Rattle.std.proofs.lemmas.List.Concat.{flat_map-append}
use Rattle.std.proofs.lemmas.List.Elements.{All-push}
use Rattle.irt_base.specs.declared.blocks.Bundle.{Bundle}
use Rattle.irt_base.specs.declared.plants.Plant.{Plant}
use Rattle.irt_world.specs.Forwardings.{forwardings}
use Rattle.irt_world.specs.Rows.{IsRowOf}
use Rattle.irt_world.specs.declared.forwardings.Forwarding.{Forwarding}
use Rattle.irt_world.specs.declared.rows.Row.{Row}
use Rattle.world_file.specs.Text.{line_of, line_text, rows_text}
use Rattle.world_file.specs.Wrong.{IsLineRefusal, IsRefusal}
use Rattle.world_file.specs.declared.fault.WorldFault.{WorldFault}
use Rattle.world_file.specs.declared.fault.WorldFault.TheVariants.{NoMemory, Refused}

-- so many lines of a file are rows in range, and the rest is still to read
pub record IsReadTo (plant : Plant) (bundles : List Bundle) (bytes : List ℕ) (rows : List Row) (rest : List ℕ) (cycle : ℕ) : Type 0 where
  pub text : bytes ≡ rows_text rows ++ rest
  pub before : All (IsRowOf plant bundles) rows
  pub count : length rows ≡ cycle

pub refusal_at : (plant : Plant) (bundles : List Bundle) (bytes : List ℕ) (rows : List Row) (rest : List ℕ) (cycle cycles : ℕ) (e : WorldFault) → IsReadTo plant bundles bytes rows rest cycle →
    cycle < cycles → IsLineRefusal plant (forwardings plant bundles) rest (cycle + 1) e → IsRefusal plant bundles cycles bytes e
refusal_at plant bundles bytes rows rest cycle cycles NoMemory read within refusal = tt
refusal_at plant bundles bytes rows rest cycle cycles (Refused line place) read within refusal = record {
  rows = rows;
  rest = rest;
  at = refusal.0 ∙ ap (λ n. n + 1) (sym read.count);
  before = read.before;
  text = read.text;
  wrong = inl (omega (arith, read.count), refusal.1);
}

pub line_refused : {A : Type 0} (plant : Plant) (bundles : List Bundle) (fs : List Forwarding) (bytes : List ℕ) (rows : List Row) (rest : List ℕ) (cycle cycles : ℕ)
    (r : Result A WorldFault) (e f : WorldFault) → r ≡ Err e → e ≡ f → fs ≡ forwardings plant bundles → IsReadTo plant bundles bytes rows rest cycle → cycle < cycles →
    IsLineRefusal plant fs rest (cycle + 1) f → IfErr r (IsRefusal plant bundles cycles bytes)
line_refused plant bundles fs bytes rows rest cycle cycles r e f is same numbered read within refusal =
    rw (is, same) (refusal_at plant bundles bytes rows rest cycle cycles f read within (subst (λ gs. IsLineRefusal plant gs rest (cycle + 1) f) numbered refusal))

pub row_read : (plant : Plant) (bundles : List Bundle) (bytes : List ℕ) (rows more : List Row) (row : Row) (rest after : List ℕ) (cycle : ℕ) → more ≡ rows ++ row ∷ [] →
    IsReadTo plant bundles bytes rows rest cycle → IsRowOf plant bundles row × (rest ≡ line_text (line_of row) ++ after) → IsReadTo plant bundles bytes more after (cycle + 1)
row_read plant bundles bytes rows more row rest after cycle pushed read found =
    subst (λ rs. IsReadTo plant bundles bytes rs after (cycle + 1)) (sym pushed)
    (record {
      text = read.text ∙ ap (λ t. rows_text rows ++ t) found.1 ∙ sym (append_assoc (rows_text rows) (line_text (line_of row)) after)
          ∙ ap (λ t. (rows_text rows ++ t) ++ after) (sym (append-nil (line_text (line_of row))))
          ∙ ap (λ t. t ++ after) (sym (flat_map-append (λ (r : Row). line_text (line_of r)) rows (row ∷ [])));
      before = All-push (IsRowOf plant bundles) rows row read.before found.0;
      count = omega (arith, read.count, length-append rows (row ∷ []));
    })
