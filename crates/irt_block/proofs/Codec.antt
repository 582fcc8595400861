-- Codecs: a spelling, and a reader that takes exactly what is spelled. A block's law is a composition of
-- those of its fields.
use Rattle.std.proofs.Common.{◌≡◌, ℕ, zero, suc, ◌^◌, ◌<◌, ◌≤◌, Bool, true, false, cond, nat_lt, ◌==◌, List, [], ◌∷◌, ◌++◌, length, take, drop, Result, Ok, Err, refl, sym, ap, subst, ◌∙◌, append_assoc, arith}
use Rattle.std.specs.Prelude.{replicate}
use Rattle.std.specs.List.{AllByRecursion, flat_map}
use Rattle.std.proofs.lemmas.Bool.{ltb-false, le-ltb, eqb-true}
use Rattle.std.proofs.lemmas.List.{take_at, drop_at, take-append-drop, length-append, length-take}
use Rattle.std.proofs.lemmas.List.Concat.{flat_map-cons}
use Rattle.irt_block.specs.declared.fault.BlockFault.{BlockFault}
use Rattle.irt_block.specs.declared.fault.BlockKind.TheVariants as kinds
use Rattle.irt_block.specs.declared.extent.Extent.{Extent}
use Rattle.irt_block.specs.declared.bytes.ByteClass.{ByteClass}
use Rattle.irt_block.specs.declared.bytes.ByteClass.TheVariants as classes
use Rattle.irt_block.specs.Reading.{◌>>=◌, Reader, IsSure, fault_at, offset_of, missing_of, spelled, number_in, raw_at, number_at, rule_at, ruled_at, constant_at, is_of, kind_of, bytes_pass, class_at, pad_at, repeat_at}
use Rattle.byte_laws.specs.Spelling.{IsBytes}
use Rattle.byte_laws.proofs.Words.{IsBytes-drop, IsBytes-take, each_byte}
use Rattle.irt_block.proofs.Numbers.{length-spelled, number_in-spelled, number_in-lt, spelled-number_in}
use Rattle.irt_block.proofs.Steps.{bind_ok, guard_not, guard_so, done, ok_is, Takes, Takes-then, failed, sure_ok, sure_err, sure_missing, sure_if, sure_bind, sure_map, sure_along}

pub record Codec (A : Type 0) : Type 1 where
  -- the one spelling of a value
  pub spell : A → List ℕ
  -- what has a spelling
  pub Fits : A → Type 0
  pub read : Reader A
  -- what is read is spelled so
  pub takes : (extent : Extent) (bytes : List ℕ) (x : A × List ℕ) → IsBytes bytes → read extent bytes ≡ Ok x → Takes bytes (spell x.0) x.1 × Fits x.0
  -- what is spelled so is read
  pub again : (extent : Extent) (x : A) (rest : List ℕ) → Fits x → read extent (spell x ++ rest) ≡ Ok (x, rest)
  -- a refusal is not for want of memory
  pub sure : (extent : Extent) (bytes : List ℕ) → IsSure (read extent bytes)

-- ---- bytes as they are

pub raw_takes : (n : ℕ) (extent : Extent) (bytes : List ℕ) (x : List ℕ × List ℕ) → IsBytes bytes → raw_at n extent bytes ≡ Ok x → Takes bytes x.0 x.1 × ((length x.0 ≡ n) × AllByRecursion (λ b. b < 256) x.0)
raw_takes n extent bytes x fits e =
    let g = guard_not (nat_lt (length bytes) n) (missing_of extent) (take n bytes, drop n bytes) x e in
    let long : n ≤ length bytes = ltb-false _ _ g.0 in
    let made : List ℕ × List ℕ = (take n bytes, drop n bytes) in
    subst (λ (y : List ℕ × List ℕ). Takes bytes y.0 y.1 × ((length y.0 ≡ n) × AllByRecursion (λ b. b < 256) y.0)) g.1
    (record { parts = sym (take-append-drop n bytes); rest_fits = IsBytes-drop n bytes fits }, (omega (arith, length-take n bytes), each_byte (take n bytes) (IsBytes-take n bytes fits)))

pub raw_again : (n : ℕ) (extent : Extent) (x rest : List ℕ) → length x ≡ n → raw_at n extent (x ++ rest) ≡ Ok (x, rest)
raw_again n extent x rest len =
    let long : nat_lt (length (x ++ rest)) n ≡ false = le-ltb _ _ (omega (arith, length-append x rest)) in
    rw (long, take_at x rest n len, drop_at x rest n len) refl

pub raw_sure : (n : ℕ) (extent : Extent) (bytes : List ℕ) → IsSure (raw_at n extent bytes)
raw_sure n extent bytes = sure_if (nat_lt (length bytes) n) (failed (missing_of extent)) (done (take n bytes, drop n bytes)) (sure_missing extent) (sure_ok (take n bytes, drop n bytes))

abbrev pub raw : ℕ → Codec (List ℕ)
raw n = record {
  spell = λ x. x;
  Fits = λ x. (length x ≡ n) × AllByRecursion (λ b. b < 256) x;
  read = raw_at n;
  takes = raw_takes n;
  again = λ extent x rest fits. raw_again n extent x rest fits.0;
  sure = raw_sure n;
}

-- ---- numbers

pub number_takes : (n : ℕ) (extent : Extent) (bytes : List ℕ) (x : ℕ × List ℕ) → IsBytes bytes → number_at n extent bytes ≡ Ok x → Takes bytes (spelled n x.0) x.1 × (x.0 < 256 ^ n)
number_takes n extent bytes x fits e =
    let g = guard_not (nat_lt (length bytes) n) (missing_of extent) (number_in n bytes, drop n bytes) x e in
    let long : n ≤ length bytes = ltb-false _ _ g.0 in
    let front : spelled n (number_in n bytes) ≡ take n bytes = spelled-number_in n bytes long fits in
    subst (λ (y : ℕ × List ℕ). Takes bytes (spelled n y.0) y.1 × (y.0 < 256 ^ n)) g.1
    (record { parts = rw front (sym (take-append-drop n bytes)); rest_fits = IsBytes-drop n bytes fits }, number_in-lt n bytes fits)

pub number_again : (n : ℕ) (extent : Extent) (x : ℕ) (rest : List ℕ) → x < 256 ^ n → number_at n extent (spelled n x ++ rest) ≡ Ok (x, rest)
number_again n extent x rest lt =
    let len = length-spelled n x in
    let long : nat_lt (length (spelled n x ++ rest)) n ≡ false = le-ltb _ _ (omega (arith, len, length-append (spelled n x) rest)) in
    rw (long, number_in-spelled n x rest lt, drop_at (spelled n x) rest n len) refl

pub number_sure : (n : ℕ) (extent : Extent) (bytes : List ℕ) → IsSure (number_at n extent bytes)
number_sure n extent bytes = sure_if (nat_lt (length bytes) n) (failed (missing_of extent)) (done (number_in n bytes, drop n bytes)) (sure_missing extent) (sure_ok (number_in n bytes, drop n bytes))

abbrev pub number : ℕ → Codec ℕ
number n = record {
  spell = spelled n;
  Fits = λ x. x < 256 ^ n;
  read = number_at n;
  takes = number_takes n;
  again = number_again n;
  sure = number_sure n;
}

-- ---- a rule on a field's value

abbrev pub checked_read : {A : Type 0} → Reader A → (A → Bool) → Reader A
checked_read read rule extent bytes = read extent bytes >>= λ x. rule_at (rule x.0) extent bytes >>= λ _. Ok x

pub checked_takes : {A : Type 0} (c : Codec A) (rule : A → Bool) (extent : Extent) (bytes : List ℕ) (x : A × List ℕ) → IsBytes bytes → checked_read c.read rule extent bytes ≡ Ok x → Takes bytes (c.spell x.0) x.1 × (c.Fits x.0 × (rule x.0 ≡ true))
checked_takes {A} c rule extent bytes x fits e =
    let a = bind_ok (c.read extent bytes) (λ y. rule_at (rule y.0) extent bytes >>= λ _. Ok y) x e in
    let b = bind_ok (rule_at (rule a.0.0) extent bytes) (λ _. Ok a.0) x a.2 in
    let g = guard_so (rule a.0.0) (fault_at kinds.BadValue (offset_of extent bytes)) tt b.0 b.1 in
    let t = c.takes extent bytes a.0 fits a.1 in
    subst (λ (y : A × List ℕ). Takes bytes (c.spell y.0) y.1 × (c.Fits y.0 × (rule y.0 ≡ true))) (ok_is a.0 x b.2) (t.0, (t.1, g.0))

pub checked_again : {A : Type 0} (c : Codec A) (rule : A → Bool) (extent : Extent) (x : A) (rest : List ℕ) → c.Fits x × (rule x ≡ true) → checked_read c.read rule extent (c.spell x ++ rest) ≡ Ok (x, rest)
checked_again c rule extent x rest fits = rw (c.again extent x rest fits.0, fits.1) refl

value_fault : (kind_is : kinds.BadValue ≡ kinds.NoMemory) → ⊥
value_fault e = absurd cc

pub rule_sure : (holds : Bool) (extent : Extent) (bytes : List ℕ) → IsSure (rule_at holds extent bytes)
rule_sure holds extent bytes = sure_if holds (done tt) (failed (fault_at kinds.BadValue (offset_of extent bytes))) (sure_ok tt) (sure_err (fault_at kinds.BadValue (offset_of extent bytes)) value_fault)

pub checked_sure : {A : Type 0} (c : Codec A) (rule : A → Bool) (extent : Extent) (bytes : List ℕ) → IsSure (checked_read c.read rule extent bytes)
checked_sure c rule extent bytes =
    sure_bind (c.read extent bytes) (λ x. rule_at (rule x.0) extent bytes >>= λ _. Ok x) (c.sure extent bytes) (λ x.
    sure_map (rule_at (rule x.0) extent bytes) (λ _. x) (rule_sure (rule x.0) extent bytes))

abbrev pub checked : {A : Type 0} → Codec A → (A → Bool) → Codec A
checked c rule = record {
  spell = c.spell;
  Fits = λ x. c.Fits x × (rule x ≡ true);
  read = checked_read c.read rule;
  takes = checked_takes c rule;
  again = checked_again c rule;
  sure = checked_sure c rule;
}

abbrev pub ruled : ℕ → (ℕ → Bool) → Codec ℕ
ruled n rule = checked (number n) rule

-- ---- a field that is always the same

pub constant_takes : (n value : ℕ) (extent : Extent) (bytes : List ℕ) (x : Unit {0} × List ℕ) → IsBytes bytes → constant_at n value extent bytes ≡ Ok x → Takes bytes (spelled n value) x.1 × Unit {0}
constant_takes n value extent bytes x fits e =
    let a = bind_ok (ruled_at n (λ y. y == value) extent bytes) (λ y. Ok (tt, y.1)) x e in
    let t = (ruled n (λ y. y == value)).takes extent bytes a.0 fits a.1 in
    let same : a.0.0 ≡ value = eqb-true _ _ t.1.1 in
    subst (λ (y : Unit {0} × List ℕ). Takes bytes (spelled n value) y.1 × Unit {0}) (ok_is (tt, a.0.1) x a.2) (subst (λ (v : ℕ). Takes bytes (spelled n v) a.0.1) same t.0, tt)

pub constant_again : (n value : ℕ) (extent : Extent) (rest : List ℕ) → value < 256 ^ n → constant_at n value extent (spelled n value ++ rest) ≡ Ok (tt, rest)
constant_again n value extent rest lt =
    let same : (value == value) ≡ true = grind arith in
    rw ((ruled n (λ y. y == value)).again extent value rest (lt, same)) refl

abbrev pub constant : (n value : ℕ) → value < 256 ^ n → Codec (Unit {0})
constant n value lt = record {
  spell = λ _. spelled n value;
  Fits = λ _. Unit {0};
  read = constant_at n value;
  takes = constant_takes n value;
  sure = λ extent bytes. sure_map (ruled_at n (λ y. y == value) extent bytes) (λ y. (tt, y.1)) ((ruled n (λ y. y == value)).sure extent bytes);
  again = λ extent x rest fits. constant_again n value extent rest lt;
}

-- ---- bytes of a class

chosen : (good : Bool) (r : Result (Unit {0}) BlockFault) (d : BlockFault) (u : Unit {0}) → cond good r (Err d) ≡ Ok u → (good ≡ true) × (r ≡ Ok u)
chosen true r d u e = (refl, e)
chosen false r d u e = absurd cc

pub pass_is : (class : ByteClass) (n : ℕ) (extent : Extent) (bytes : List ℕ) (u : Unit {0}) → n ≤ length bytes → bytes_pass class n extent bytes ≡ Ok u → AllByRecursion (λ b. is_of class b ≡ true) (take n bytes)
pass_is class zero extent bytes u long e = tt
pass_is class (suc n) extent [] u long e = absurd (omega arith)
pass_is class (suc n) extent (b ∷ bytes) u long e =
    let g = chosen (is_of class b) (bytes_pass class n extent bytes) (fault_at (kind_of class) (offset_of extent (b ∷ bytes))) u e in
    (g.0, pass_is class n extent bytes u (omega arith) g.1)

pub pass_again : (class : ByteClass) (extent : Extent) (x rest : List ℕ) → AllByRecursion (λ b. is_of class b ≡ true) x → bytes_pass class (length x) extent (x ++ rest) ≡ Ok tt
pass_again class extent [] rest all = refl
pass_again class extent (b ∷ x) rest all = rw all.0 (pass_again class extent x rest all.1)

pub class_takes : (class : ByteClass) (n : ℕ) (extent : Extent) (bytes : List ℕ) (x : List ℕ × List ℕ) → IsBytes bytes → class_at class n extent bytes ≡ Ok x → Takes bytes x.0 x.1 × ((length x.0 ≡ n) × AllByRecursion (λ b. is_of class b ≡ true) x.0)
unfolding class_at
class_takes class n extent bytes x fits e =
    let a = bind_ok (raw_at n extent bytes) (λ y. bytes_pass class n extent bytes >>= λ _. Ok y) x e in
    let b = bind_ok (bytes_pass class n extent bytes) (λ _. Ok a.0) x a.2 in
    let g = guard_not (nat_lt (length bytes) n) (missing_of extent) (take n bytes, drop n bytes) a.0 a.1 in
    let long : n ≤ length bytes = ltb-false _ _ g.0 in
    let t = raw_takes n extent bytes a.0 fits a.1 in
    let front : take n bytes ≡ a.0.0 = ap (λ (y : List ℕ × List ℕ). y.0) g.1 in
    let all = subst (λ (y : List ℕ). AllByRecursion (λ c. is_of class c ≡ true) y) front (pass_is class n extent bytes b.0 long b.1) in
    subst (λ (y : List ℕ × List ℕ). Takes bytes y.0 y.1 × ((length y.0 ≡ n) × AllByRecursion (λ c. is_of class c ≡ true) y.0)) (ok_is a.0 x b.2) (t.0, (t.1.0, all))

pub class_again : (class : ByteClass) (n : ℕ) (extent : Extent) (x rest : List ℕ) → (length x ≡ n) × AllByRecursion (λ b. is_of class b ≡ true) x → class_at class n extent (x ++ rest) ≡ Ok (x, rest)
unfolding class_at
class_again class n extent x rest fits =
    let all : bytes_pass class n extent (x ++ rest) ≡ Ok tt = subst (λ (m : ℕ). bytes_pass class m extent (x ++ rest) ≡ Ok tt) fits.0 (pass_again class extent x rest fits.1) in
    rw (raw_again n extent x rest fits.0, all) refl

kind_is_sure : (class : ByteClass) → kind_of class ≡ kinds.NoMemory → ⊥
kind_is_sure classes.Zero e = absurd cc
kind_is_sure classes.Letter e = absurd cc

pass_sure : (class : ByteClass) (n : ℕ) (extent : Extent) (bytes : List ℕ) → IsSure (bytes_pass class n extent bytes)
pass_sure class zero extent bytes = sure_ok tt
pass_sure class (suc n) extent [] = sure_ok tt
pass_sure class (suc n) extent (b ∷ bytes) =
    let d = fault_at (kind_of class) (offset_of extent (b ∷ bytes)) in
    sure_if (is_of class b) (bytes_pass class n extent bytes) (failed d) (pass_sure class n extent bytes) (sure_err d (kind_is_sure class))

pub class_sure : (class : ByteClass) (n : ℕ) (extent : Extent) (bytes : List ℕ) → IsSure (class_at class n extent bytes)
unfolding class_at
class_sure class n extent bytes =
    sure_bind (raw_at n extent bytes) (λ x. bytes_pass class n extent bytes >>= λ _. Ok x) (raw_sure n extent bytes) (λ x.
    sure_map (bytes_pass class n extent bytes) (λ _. x) (pass_sure class n extent bytes))

abbrev pub of_class : ByteClass → ℕ → Codec (List ℕ)
of_class class n = record {
  spell = λ x. x;
  Fits = λ x. (length x ≡ n) × AllByRecursion (λ b. is_of class b ≡ true) x;
  read = class_at class n;
  takes = class_takes class n;
  again = class_again class n;
  sure = class_sure class n;
}

-- ---- padding

pub zeros_are : (n : ℕ) (x : List ℕ) → length x ≡ n → AllByRecursion (λ b. is_of classes.Zero b ≡ true) x → x ≡ replicate n 0
zeros_are zero [] len all = refl
zeros_are zero (b ∷ x) len all = absurd (omega arith)
zeros_are (suc n) [] len all = absurd (omega arith)
zeros_are (suc n) (b ∷ x) len all =
    let first : b ≡ 0 = eqb-true _ _ all.0 in
    let others = zeros_are n x (omega arith) all.1 in
    rw (first, others) refl

pub zeros_pass : (n : ℕ) → AllByRecursion (λ b. is_of classes.Zero b ≡ true) (replicate n 0)
zeros_pass zero = tt
zeros_pass (suc n) = (refl, zeros_pass n)

pub zeros_count : (n : ℕ) → length {A = ℕ} (replicate n 0) ≡ n
zeros_count zero = refl
zeros_count (suc n) = let h = zeros_count n in omega (arith, h)

pub pad_takes : (n : ℕ) (extent : Extent) (bytes : List ℕ) (x : Unit {0} × List ℕ) → IsBytes bytes → pad_at n extent bytes ≡ Ok x → Takes bytes (replicate n 0) x.1 × Unit {0}
unfolding pad_at
pad_takes n extent bytes x fits e =
    let a = bind_ok (class_at classes.Zero n extent bytes) (λ y. Ok (tt, y.1)) x e in
    let t = class_takes classes.Zero n extent bytes a.0 fits a.1 in
    let same = zeros_are n a.0.0 t.1.0 t.1.1 in
    subst (λ (y : Unit {0} × List ℕ). Takes bytes (replicate n 0) y.1 × Unit {0}) (ok_is (tt, a.0.1) x a.2) (subst (λ (z : List ℕ). Takes bytes z a.0.1) same t.0, tt)

pub pad_again : (n : ℕ) (extent : Extent) (rest : List ℕ) → pad_at n extent (replicate n 0 ++ rest) ≡ Ok (tt, rest)
unfolding pad_at
pad_again n extent rest = rw (class_again classes.Zero n extent (replicate n 0) rest (zeros_count n, zeros_pass n)) refl

pub pad_sure : (n : ℕ) (extent : Extent) (bytes : List ℕ) → IsSure (pad_at n extent bytes)
unfolding pad_at
pad_sure n extent bytes = sure_map (class_at classes.Zero n extent bytes) (λ x. (tt, x.1)) (class_sure classes.Zero n extent bytes)

abbrev pub padding : ℕ → Codec (Unit {0})
padding n = record {
  spell = λ _. replicate n 0;
  Fits = λ _. Unit {0};
  read = pad_at n;
  takes = pad_takes n;
  again = λ extent x rest fits. pad_again n extent rest;
  sure = pad_sure n;
}

-- ---- one field after another, where the second may depend on the first

unfoldable pub pair_read : {A B : Type 0} → Reader A → (A → Reader B) → Reader (A × B)
pair_read first second extent bytes = first extent bytes >>= λ x. second x.0 extent x.1 >>= λ y. Ok ((x.0, y.0), y.1)

pub pair_takes : {A B : Type 0} (c : Codec A) (d : A → Codec B) (extent : Extent) (bytes : List ℕ) (x : (A × B) × List ℕ) → IsBytes bytes → pair_read c.read (λ a. (d a).read) extent bytes ≡ Ok x → Takes bytes (c.spell x.0.0 ++ (d x.0.0).spell x.0.1) x.1 × (c.Fits x.0.0 × (d x.0.0).Fits x.0.1)
unfolding pair_read
pair_takes {A} {B} c d extent bytes x fits e =
    let a = bind_ok (c.read extent bytes) (λ y. (d y.0).read extent y.1 >>= λ z. Ok ((y.0, z.0), z.1)) x e in
    let b = bind_ok ((d a.0.0).read extent a.0.1) (λ z. Ok ((a.0.0, z.0), z.1)) x a.2 in
    let s = c.takes extent bytes a.0 fits a.1 in
    let t = (d a.0.0).takes extent a.0.1 b.0 s.0.rest_fits b.1 in
    let made : (A × B) × List ℕ = ((a.0.0, b.0.0), b.0.1) in
    subst (λ (y : (A × B) × List ℕ). Takes bytes (c.spell y.0.0 ++ (d y.0.0).spell y.0.1) y.1 × (c.Fits y.0.0 × (d y.0.0).Fits y.0.1)) (ok_is made x b.2)
    (Takes-then bytes (c.spell a.0.0) a.0.1 ((d a.0.0).spell b.0.0) b.0.1 s.0 t.0, (s.1, t.1))

pub pair_again : {A B : Type 0} (c : Codec A) (d : A → Codec B) (extent : Extent) (x : A × B) (rest : List ℕ) → c.Fits x.0 × (d x.0).Fits x.1 → pair_read c.read (λ a. (d a).read) extent ((c.spell x.0 ++ (d x.0).spell x.1) ++ rest) ≡ Ok (x, rest)
unfolding pair_read
pair_again c d extent x rest fits =
    let regrouped = append_assoc (c.spell x.0) ((d x.0).spell x.1) rest in
    ap (pair_read c.read (λ a. (d a).read) extent) regrouped ∙ rw (c.again extent x.0 ((d x.0).spell x.1 ++ rest) fits.0, (d x.0).again extent x.1 rest fits.1) refl

pub pair_sure : {A B : Type 0} (first : Reader A) (second : A → Reader B) (extent : Extent) (bytes : List ℕ) → IsSure (first extent bytes) → ((a : A) (rest : List ℕ) → IsSure (second a extent rest)) → IsSure (pair_read first second extent bytes)
unfolding pair_read
pair_sure first second extent bytes first_sure second_sure =
    sure_bind (first extent bytes) (λ x. second x.0 extent x.1 >>= λ y. Ok ((x.0, y.0), y.1)) first_sure (λ x.
    sure_map (second x.0 extent x.1) (λ y. ((x.0, y.0), y.1)) (second_sure x.0 x.1))

abbrev pub pair : {A B : Type 0} → Codec A → (A → Codec B) → Codec (A × B)
pair c d = record {
  spell = λ x. c.spell x.0 ++ (d x.0).spell x.1;
  Fits = λ x. c.Fits x.0 × (d x.0).Fits x.1;
  read = pair_read c.read (λ a. (d a).read);
  takes = pair_takes c d;
  again = pair_again c d;
  sure = λ extent bytes. pair_sure c.read (λ a. (d a).read) extent bytes (c.sure extent bytes) (λ a rest. (d a).sure extent rest);
}

bind_map : {A B C : Type 0} (r : Result A BlockFault) (h : A → B) (f : B → Result C BlockFault) → (r >>= λ x. f (h x)) ≡ ((r >>= λ x. Ok (h x)) >>= f)
bind_map (Ok x) h f = refl
bind_map (Err e) h f = refl

steps : {A B C : Type 0} (r : Result (A × List ℕ) BlockFault) (second : A × List ℕ → Result (B × List ℕ) BlockFault) (f : (A × B) × List ℕ → Result C BlockFault) (g : A × List ℕ → Result C BlockFault)
    → ((x : A × List ℕ) → g x ≡ (second x >>= λ y. f ((x.0, y.0), y.1))) → (r >>= g) ≡ ((r >>= λ x. second x >>= λ y. Ok ((x.0, y.0), y.1)) >>= f)
steps {A} {B} (Ok x) second f g h = h x ∙ bind_map (second x) (λ (y : B × List ℕ). ((x.0, y.0), y.1)) f
steps (Err e) second f g h = refl

-- Reading fields one by one, and then going on with f, is reading their pair and going on with f. The
-- proof for what follows the first field is given.
pub pair_steps : {A B C : Type 0} (first : Reader A) (second : A → Reader B) (extent : Extent) (bytes : List ℕ) (f : (A × B) × List ℕ → Result C BlockFault) (g : A × List ℕ → Result C BlockFault)
    → ((x : A × List ℕ) → g x ≡ (second x.0 extent x.1 >>= λ y. f ((x.0, y.0), y.1))) → (first extent bytes >>= g) ≡ (pair_read first second extent bytes >>= f)
unfolding pair_read
pair_steps first second extent bytes f g h = steps (first extent bytes) (λ x. second x.0 extent x.1) f g h

-- ---- an item as often as a count says

pub repeat_takes : {A : Type 0} (c : Codec A) (n : ℕ) (extent : Extent) (bytes : List ℕ) (x : List A × List ℕ) → IsBytes bytes → repeat_at c.read n extent bytes ≡ Ok x → Takes bytes (flat_map c.spell x.0) x.1 × ((length x.0 ≡ n) × AllByRecursion c.Fits x.0)
unfolding repeat_at
repeat_takes {A} c zero extent bytes x fits e =
    subst (λ (y : List A × List ℕ). Takes bytes (flat_map c.spell y.0) y.1 × ((length y.0 ≡ 0) × AllByRecursion c.Fits y.0)) (ok_is ([], bytes) x e) (record { parts = refl; rest_fits = fits }, (refl, tt))
repeat_takes {A} c (suc n) extent bytes x fits e =
    let a = bind_ok (c.read extent bytes) (λ first. repeat_at c.read n extent first.1 >>= λ others. Ok (first.0 ∷ others.0, others.1)) x e in
    let b = bind_ok (repeat_at c.read n extent a.0.1) (λ others. Ok (a.0.0 ∷ others.0, others.1)) x a.2 in
    let first = c.takes extent bytes a.0 fits a.1 in
    let second = repeat_takes c n extent a.0.1 b.0 first.0.rest_fits b.1 in
    let both = Takes-then bytes (c.spell a.0.0) a.0.1 (flat_map c.spell b.0.0) b.0.1 first.0 second.0 in
    let made : List A × List ℕ = (a.0.0 ∷ b.0.0, b.0.1) in
    subst (λ (y : List A × List ℕ). Takes bytes (flat_map c.spell y.0) y.1 × ((length y.0 ≡ suc n) × AllByRecursion c.Fits y.0)) (ok_is made x b.2) (rw flat_map-cons both, (ap suc second.1.0, (first.1, second.1.1)))

pub repeat_again : {A : Type 0} (c : Codec A) (extent : Extent) (xs : List A) (rest : List ℕ) → AllByRecursion c.Fits xs → repeat_at c.read (length xs) extent (flat_map c.spell xs ++ rest) ≡ Ok (xs, rest)
unfolding repeat_at
repeat_again c extent [] rest fits = refl
repeat_again c extent (x ∷ xs) rest fits =
    let regrouped : flat_map c.spell (x ∷ xs) ++ rest ≡ c.spell x ++ (flat_map c.spell xs ++ rest) = ap (λ (y : List ℕ). y ++ rest) (flat_map-cons c.spell x xs) ∙ append_assoc (c.spell x) (flat_map c.spell xs) rest in
    ap (repeat_at c.read (suc (length xs)) extent) regrouped ∙ rw (c.again extent x (flat_map c.spell xs ++ rest) fits.0, repeat_again c extent xs rest fits.1) refl

pub repeat_again_count : {A : Type 0} (c : Codec A) (n : ℕ) (extent : Extent) (xs : List A) (rest : List ℕ) → (length xs ≡ n) × AllByRecursion c.Fits xs → repeat_at c.read n extent (flat_map c.spell xs ++ rest) ≡ Ok (xs, rest)
repeat_again_count c n extent xs rest fits =
    subst (λ (m : ℕ). repeat_at c.read m extent (flat_map c.spell xs ++ rest) ≡ Ok (xs, rest)) fits.0 (repeat_again c extent xs rest fits.1)

pub repeat_sure : {A : Type 0} (c : Codec A) (n : ℕ) (extent : Extent) (bytes : List ℕ) → IsSure (repeat_at c.read n extent bytes)
unfolding repeat_at
repeat_sure c zero extent bytes = sure_ok ([], bytes)
repeat_sure c (suc n) extent bytes =
    sure_bind (c.read extent bytes) (λ first. repeat_at c.read n extent first.1 >>= λ others. Ok (first.0 ∷ others.0, others.1)) (c.sure extent bytes) (λ first.
    sure_map (repeat_at c.read n extent first.1) (λ others. (first.0 ∷ others.0, others.1)) (repeat_sure c n extent first.1))

abbrev pub repeat : {A : Type 0} → Codec A → ℕ → Codec (List A)
repeat c n = record {
  spell = flat_map c.spell;
  Fits = λ xs. (length xs ≡ n) × AllByRecursion c.Fits xs;
  read = repeat_at c.read n;
  takes = repeat_takes c n;
  again = repeat_again_count c n;
  sure = repeat_sure c n;
}

-- ---- the same bytes as another value

-- how two types of values stand for each other, and what is spelled, valid and read of each
pub record IsView {A B : Type 0} (spell_first : A → List ℕ) (FitsFirst : A → Type 0) (read_first : Reader A) (to : A → B) (from : B → A) (spell : B → List ℕ) (Fits : B → Type 0) (read : Reader B) : Type 0 where
  pub spell_is : (b : B) → spell b ≡ spell_first (from b)
  pub read_is : (extent : Extent) (bytes : List ℕ) → read extent bytes ≡ (read_first extent bytes >>= λ x. Ok (to x.0, x.1))
  pub fits : (a : A) → FitsFirst a → Fits (to a) × (from (to a) ≡ a)
  pub back : (b : B) → Fits b → FitsFirst (from b) × (to (from b) ≡ b)

module _ {A B : Type 0} (spell_first : A → List ℕ) (FitsFirst : A → Type 0) (read_first : Reader A) (to : A → B) (from : B → A) (spell : B → List ℕ) (Fits : B → Type 0) (read : Reader B)
    (v : IsView spell_first FitsFirst read_first to from spell Fits read) where
  pub view_takes : ((extent : Extent) (bytes : List ℕ) (x : A × List ℕ) → IsBytes bytes → read_first extent bytes ≡ Ok x → Takes bytes (spell_first x.0) x.1 × FitsFirst x.0)
      → (extent : Extent) (bytes : List ℕ) (x : B × List ℕ) → IsBytes bytes → read extent bytes ≡ Ok x → Takes bytes (spell x.0) x.1 × Fits x.0
  view_takes takes extent bytes x fits e =
      let a = bind_ok (read_first extent bytes) (λ y. Ok (to y.0, y.1)) x (sym (v.read_is extent bytes) ∙ e) in
      let t = takes extent bytes a.0 fits a.1 in
      let f = v.fits a.0.0 t.1 in
      let same : spell_first a.0.0 ≡ spell (to a.0.0) = sym (v.spell_is (to a.0.0) ∙ ap spell_first f.1) in
      let made : B × List ℕ = (to a.0.0, a.0.1) in
      subst (λ (y : B × List ℕ). Takes bytes (spell y.0) y.1 × Fits y.0) (ok_is made x a.2) (subst (λ (s : List ℕ). Takes bytes s a.0.1) same t.0, f.0)

  pub view_again : (extent : Extent) (x : B) (rest : List ℕ) → Fits x → read_first extent (spell_first (from x) ++ rest) ≡ Ok (from x, rest) → read extent (spell x ++ rest) ≡ Ok (x, rest)
  view_again extent x rest fits again =
      let one : read extent (spell x ++ rest) ≡ read extent (spell_first (from x) ++ rest) = ap (λ (s : List ℕ). read extent (s ++ rest)) (v.spell_is x) in
      let two : (read_first extent (spell_first (from x) ++ rest) >>= λ y. Ok (to y.0, y.1)) ≡ Ok (to (from x), rest) = rw again refl in
      one ∙ v.read_is extent (spell_first (from x) ++ rest) ∙ two ∙ ap (λ (y : B). Ok (y, rest)) (v.back x fits).1

  pub view_sure : ((extent : Extent) (bytes : List ℕ) → IsSure (read_first extent bytes)) → (extent : Extent) (bytes : List ℕ) → IsSure (read extent bytes)
  view_sure sure extent bytes =
      sure_along (read extent bytes) (read_first extent bytes >>= λ x. Ok (to x.0, x.1)) (v.read_is extent bytes) (sure_map (read_first extent bytes) (λ x. (to x.0, x.1)) (sure extent bytes))

abbrev pub view : {A B : Type 0} → (c : Codec A) → (to : A → B) → (from : B → A) → (spell : B → List ℕ) → (Fits : B → Type 0) → (read : Reader B) → IsView c.spell c.Fits c.read to from spell Fits read → Codec B
view c to from spell Fits read v = record {
  spell = spell;
  Fits = Fits;
  read = read;
  takes = view_takes c.spell c.Fits c.read to from spell Fits read v c.takes;
  again = λ extent x rest fits. view_again c.spell c.Fits c.read to from spell Fits read v extent x rest fits (c.again extent (from x) rest (v.back x fits).0);
  sure = view_sure c.spell c.Fits c.read to from spell Fits read v c.sure;
}
