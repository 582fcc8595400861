-- What a step that succeeded says of its parts.
use Rattle.std.proofs.Common.{◌≡◌, ℕ, Bool, true, false, cond, List, ◌++◌, Result, Ok, Err, refl, sym, ap, ◌∙◌, append_assoc, inl, inr}
use Rattle.std.specs.Prelude.{◌⊎◌}
use Rattle.irt_block.specs.declared.fault.BlockFault.{BlockFault}
use Rattle.irt_block.specs.declared.fault.BlockKind.TheVariants as kinds
use Rattle.irt_block.specs.declared.extent.Extent.{Extent}
use Rattle.irt_block.specs.declared.extent.Holder.{Holder}
use Rattle.irt_block.specs.declared.extent.Holder.TheVariants as holders
use Rattle.irt_block.specs.Reading.{◌>>=◌, IsSure, missing_in, missing_of}
use Rattle.byte_laws.specs.Spelling.{IsBytes}

-- the value of a step that did not fail
pub bind_ok : {A B : Type 0} (r : Result A BlockFault) (f : A → Result B BlockFault) (y : B) → (r >>= f) ≡ Ok y → (x : A) × (r ≡ Ok x) × (f x ≡ Ok y)
bind_ok (Ok x) f y e = (x, refl, e)
bind_ok (Err d) f y e = absurd cc

-- a test that did not fail
pub guard_not : {A : Type 0} (b : Bool) (d : BlockFault) (x y : A) → cond b (Err d) (Ok x) ≡ Ok y → (b ≡ false) × (x ≡ y)
guard_not true d x y e = absurd cc
guard_not false d x y e = (refl, cc)

pub guard_so : {A : Type 0} (b : Bool) (d : BlockFault) (x y : A) → cond b (Ok x) (Err d) ≡ Ok y → (b ≡ true) × (x ≡ y)
guard_so true d x y e = (refl, cc)
guard_so false d x y e = absurd cc

-- a test that let the rest go on
pub guard_past : {A : Type 0} (b : Bool) (d : BlockFault) (r : Result A BlockFault) (y : A) → cond b (Err d) r ≡ Ok y → (b ≡ false) × (r ≡ Ok y)
guard_past true d r y e = absurd cc
guard_past false d r y e = (refl, e)

-- which way a test went
pub chosen : {A : Type 0} (b : Bool) (x y : Result A BlockFault) (z : A) → cond b x y ≡ Ok z → ((b ≡ true) × (x ≡ Ok z)) ⊎ ((b ≡ false) × (y ≡ Ok z))
chosen true x y z e = inl (refl, e)
chosen false x y z e = inr (refl, e)

abbrev pub done : {A : Type 0} → A → Result A BlockFault
done x = Ok x

pub ok_is : {A : Type 0} (x y : A) → done x ≡ done y → x ≡ y
ok_is x y e = cc

-- what follows a step, at the value that it gave
pub after_ok : {A B : Type 0} (x y : A) (f : A → Result B BlockFault) (z : B) → done x ≡ done y → f y ≡ Ok z → f x ≡ Ok z
after_ok x y f z e h = ap f (ok_is x y e) ∙ h

-- what a reader took from the front
pub record Takes (bytes text rest : List ℕ) : Type 0 where
  pub parts : bytes ≡ text ++ rest
  pub rest_fits : IsBytes rest

pub Takes-then : (a x b y c : List ℕ) → Takes a x b → Takes b y c → Takes a (x ++ y) c
Takes-then a x b y c p q = record { parts = p.parts ∙ ap (λ (t : List ℕ). x ++ t) q.parts ∙ sym (append_assoc x y c); rest_fits = q.rest_fits }

-- ---- refusals that are not for want of memory

pub sure_ok : {A : Type 0} (x : A) → IsSure (done x)
sure_ok x e h = absurd cc

abbrev pub failed : {A : Type 0} → BlockFault → Result A BlockFault
failed d = Err d

pub sure_err : {A : Type 0} (d : BlockFault) → (d.kind ≡ kinds.NoMemory → ⊥) → IsSure (failed {A = A} d)
sure_err d other e h none_left = other (cc)

missing_is : (holder : Holder) (end : ℕ) → (missing_in holder end).kind ≡ kinds.NoMemory → ⊥
missing_is holders.Input end e = absurd cc
missing_is (holders.Block length_at) end e = absurd cc

pub sure_missing : {A : Type 0} (extent : Extent) → IsSure (failed {A = A} (missing_of extent))
sure_missing extent = sure_err (missing_of extent) (missing_is extent.holder extent.end)

pub sure_if : {A : Type 0} (b : Bool) (x y : Result A BlockFault) → IsSure x → IsSure y → IsSure (cond b x y)
sure_if true x y x_sure y_sure = x_sure
sure_if false x y x_sure y_sure = y_sure

pub sure_bind : {A B : Type 0} (r : Result A BlockFault) (f : A → Result B BlockFault) → IsSure r → ((x : A) → IsSure (f x)) → IsSure (r >>= f)
sure_bind (Ok x) f first next = next x
sure_bind (Err d) f first next = λ e h none_left. first d refl (cc)

-- what was read, made into something else
pub sure_map : {A B : Type 0} (r : Result A BlockFault) (f : A → B) → IsSure r → IsSure (r >>= λ x. Ok (f x))
sure_map r f first = sure_bind r (λ x. Ok (f x)) first (λ x. sure_ok (f x))

pub sure_along : {A : Type 0} (r s : Result A BlockFault) → r ≡ s → IsSure s → IsSure r
sure_along r s same s_sure e h = s_sure e (sym same ∙ h)
