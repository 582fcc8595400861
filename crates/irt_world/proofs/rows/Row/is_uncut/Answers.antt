use Rattle.std.proofs.Common.{Option, ◌≡◌, ℕ, ◌↔◌, Some, IfSome, true, false, not, Bool, ap, subst}
use Rattle.std.proofs.lemmas.Bool.{not-true}
use Rattle.irt_base.specs.Wiring.{link_number}
use Rattle.irt_world.specs.Rows.{is_cut_in}
use Rattle.irt_world.specs.declared.rows.Row.{Row}
use Rattle.irt_world.proofs.rows.Row.is_uncut.Goals as goal

uncut_at : (o : Option ℕ) (link : ℕ) (r : Bool) (row : Row) → o ≡ Some link → r ≡ is_cut_in row link →
    (not r ≡ true) ↔ IfSome o (λ n. is_cut_in row n ≡ false)
uncut_at o link r row at value = rw at (subst (λ b. (not r ≡ true) ↔ (b ≡ false)) value (not-true r, λ no. ap not no))

pub returns : goal.returns
returns c = λ plant bundles device port at.
    uncut_at (link_number plant device port) c.args.link c.is_cut.result c.args.self.now at c.is_cut.ensures
