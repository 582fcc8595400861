-- Words that state a command ask for it.
use Rattle.std.proofs.Common.{◌≡◌, ◌≢◌, ◌<◌, ◌≤◌, ◌^◌, ◌==◌, ◌&&◌, ℕ, zero, suc, true, false, [], ◌∷◌, length, get_or, codes, decimal, Option, Some, None, refl, ◌∙◌, ap, arith}
use Rattle.std.specs.Prelude.{nat_le, option_and_then, if◌then◌else◌}
use Rattle.std.proofs.lemmas.Bool.Decides.{nat_tests}
use Rattle.std.proofs.lemmas.Fmt.{decimal_digit, decimal_nonempty, first_decimal}
use Rattle.irt_base.specs.Valid.{IsWithin}
use Rattle.irt_base.specs.declared.limits.TheConstants.{MAX_CYCLES, MAX_DEVICES, MAX_DEMANDS}
use Rattle.clap.specs.Words.{Text}
use Rattle.clap.proofs.OnLiterals.{clap_on_literals}
use Rattle.irt_words.specs.Asked.{as_number, as_within, asked_of, words_of, IsStated}
use Rattle.irt_words.specs.Commands.{Command, plan, check, show, sync, run, run_world, gen, free}
use Rattle.irt_words.specs.declared.asked.TheConstants.{MIN_GENERATED, MAX_SEED}
use Rattle.irt_words.proofs.NumberLemmas.{number_back}

infixl 10 ◌>>=◌
abbrev ◌>>=◌ : {A B : Type 0} → Option A → (A → Option B) → Option B
o >>= f = option_and_then f o

-- the number that a text writes, from `least` to `most`
abbrev numbered : ℕ → ℕ → Text → Option ℕ
numbered least most text = as_number text >>= as_within least most

-- ---- each form, of words that do not begin with `-`

plan_form : (x : ℕ) (xs : Text) → (x == 45) ≡ false → asked_of (codes "plan" ∷ (x ∷ xs) ∷ []) ≡ Some (plan (x ∷ xs))
unfolding clap_on_literals asked_of
plan_form x xs hx = rw (hx, hx) refl

check_form : (x : ℕ) (xs : Text) → (x == 45) ≡ false → asked_of (codes "check" ∷ (x ∷ xs) ∷ []) ≡ Some (check (x ∷ xs))
unfolding clap_on_literals asked_of
check_form x xs hx = rw (hx, hx) refl

show_form : (x : ℕ) (xs : Text) → (x == 45) ≡ false → asked_of (codes "show" ∷ (x ∷ xs) ∷ []) ≡ Some (show (x ∷ xs))
unfolding clap_on_literals asked_of
show_form x xs hx = rw (hx, hx) refl

sync_form : (x y z : ℕ) (xs ys zs : Text) → (x == 45) ≡ false → (y == 45) ≡ false → (z == 45) ≡ false →
    asked_of (codes "sync" ∷ (x ∷ xs) ∷ (y ∷ ys) ∷ (z ∷ zs) ∷ [])
    ≡ (numbered 1 MAX_CYCLES (y ∷ ys) >>= λ cycles. numbered 0 MAX_SEED (z ∷ zs) >>= λ seed. Some (sync (x ∷ xs) cycles seed))
unfolding clap_on_literals asked_of
sync_form x y z xs ys zs hx hy hz = rw (hx, hx, hy, hy, hz, hz) refl

run_form : (x y z : ℕ) (xs ys zs : Text) → (x == 45) ≡ false → (y == 45) ≡ false → (z == 45) ≡ false →
    asked_of (codes "run" ∷ (x ∷ xs) ∷ (y ∷ ys) ∷ (z ∷ zs) ∷ [])
    ≡ (numbered 1 MAX_CYCLES (y ∷ ys) >>= λ cycles. numbered 0 MAX_SEED (z ∷ zs) >>= λ seed. Some (run (x ∷ xs) cycles seed))
unfolding clap_on_literals asked_of
run_form x y z xs ys zs hx hy hz = rw (hx, hx, hy, hy, hz, hz) refl

free_form : (x y z : ℕ) (xs ys zs : Text) → (x == 45) ≡ false → (y == 45) ≡ false → (z == 45) ≡ false →
    asked_of (codes "free" ∷ (x ∷ xs) ∷ (y ∷ ys) ∷ (z ∷ zs) ∷ [])
    ≡ (numbered 1 MAX_CYCLES (y ∷ ys) >>= λ cycles. numbered 0 MAX_SEED (z ∷ zs) >>= λ seed. Some (free (x ∷ xs) cycles seed))
unfolding clap_on_literals asked_of
free_form x y z xs ys zs hx hy hz = rw (hx, hx, hy, hy, hz, hz) refl

world_form : (x y z : ℕ) (xs ys zs : Text) → (x == 45) ≡ false → (y == 45) ≡ false → (z == 45) ≡ false →
    asked_of (codes "run" ∷ (x ∷ xs) ∷ (y ∷ ys) ∷ codes "--world" ∷ (z ∷ zs) ∷ [])
    ≡ (numbered 1 MAX_CYCLES (y ∷ ys) >>= λ cycles. Some (run_world (x ∷ xs) cycles (z ∷ zs)))
unfolding clap_on_literals asked_of
world_form x y z xs ys zs hx hy hz = rw (hx, hx, hy, hy, hz, hz) refl

-- what the texts of a generated plant ask for
abbrev gen_numbered : Text → Text → Text → Text → Option Command
gen_numbered w x y name = numbered 0 MAX_SEED w >>= λ seed. numbered MIN_GENERATED MAX_DEVICES x >>= λ devices. numbered 0 MAX_DEMANDS y >>= λ frames. Some (gen seed devices frames name)

gen_form : (w x y z : ℕ) (ws xs ys zs : Text) → (w == 45) ≡ false → (x == 45) ≡ false → (y == 45) ≡ false → (z == 45) ≡ false →
    asked_of (codes "gen" ∷ (w ∷ ws) ∷ (x ∷ xs) ∷ (y ∷ ys) ∷ (z ∷ zs) ∷ []) ≡ gen_numbered (w ∷ ws) (x ∷ xs) (y ∷ ys) (z ∷ zs)
unfolding clap_on_literals asked_of
gen_form w x y z ws xs ys zs hw hx hy hz = rw (hw, hw, hx, hx, hy, hy, hz, hz) (refl {a = gen_numbered (w ∷ ws) (x ∷ xs) (y ∷ ys) (z ∷ zs)})

-- ---- printed numbers

-- a printed number does not begin with `-`
record IsPlainText (text : Text) : Type 0 where
  first : ℕ
  more : Text
  is : text ≡ first ∷ more
  plain : (first == 45) ≡ false

plain_text : (text : Text) → 0 < length text → 48 ≤ get_or text 0 0 → IsPlainText text
plain_text [] some large = absurd (omega arith)
plain_text (x ∷ xs) some large = record { first = x; more = xs; is = refl; plain = grind (arith, nat_tests) }

plain_number : (n : ℕ) → n < 2 ^ 64 → IsPlainText (decimal n)
plain_number zero small = record { first = 48; more = []; is = decimal_digit 0 (omega arith); plain = refl }
plain_number (suc n) small = plain_text (decimal (suc n)) (decimal_nonempty (suc n) small) (omega (arith, first_decimal (suc n) (omega arith) small))

numbered_back : (least most n : ℕ) → most < 2 ^ 64 → least ≤ n → n ≤ most → numbered least most (decimal n) ≡ Some n
numbered_back least most n small low high =
    let passes : nat_le least n && nat_le n most ≡ true = grind (arith, nat_tests) in
    ap (λ o. o >>= as_within least most) (number_back (decimal n) n (omega arith, refl)) ∙ ap (λ b. if b then Some n else None) passes

plain_letter : (x : ℕ) → x ≢ 45 → (x == 45) ≡ false
plain_letter x differs = grind (arith, nat_tests, differs)

small_cycles : MAX_CYCLES < 2 ^ 64
small_cycles = omega arith

small_seed : MAX_SEED < 2 ^ 64
small_seed = omega arith

-- ---- all forms

-- three texts in a form
abbrev Seeded : (Text → ℕ → ℕ → Command) → Text → Type 0
Seeded made name = (x y z : ℕ) (xs ys zs : Text) → (x == 45) ≡ false → (y == 45) ≡ false → (z == 45) ≡ false →
    asked_of (name ∷ (x ∷ xs) ∷ (y ∷ ys) ∷ (z ∷ zs) ∷ [])
    ≡ (numbered 1 MAX_CYCLES (y ∷ ys) >>= λ cycles. numbered 0 MAX_SEED (z ∷ zs) >>= λ seed. Some (made (x ∷ xs) cycles seed))

seeded_asked : (made : Text → ℕ → ℕ → Command) (name : Text) → Seeded made name → (x : ℕ) (xs : Text) (cycles seed : ℕ) → x ≢ 45 → IsWithin 1 MAX_CYCLES cycles → seed ≤ MAX_SEED →
    asked_of (name ∷ (x ∷ xs) ∷ decimal cycles ∷ decimal seed ∷ []) ≡ Some (made (x ∷ xs) cycles seed)
seeded_asked made name form x xs cycles seed letter within bound =
    let c = plain_number cycles (omega (arith, within.1, small_cycles)) in
    let s = plain_number seed (omega (arith, small_seed)) in
    let given : asked_of (name ∷ (x ∷ xs) ∷ decimal cycles ∷ decimal seed ∷ [])
    ≡ (numbered 1 MAX_CYCLES (decimal cycles) >>= λ n. numbered 0 MAX_SEED (decimal seed) >>= λ m. Some (made (x ∷ xs) n m)) =
    rw (c.is, s.is) (form x c.first s.first xs c.more s.more (plain_letter x letter) c.plain s.plain) in
    given
    ∙ ap (λ o. o >>= λ n. numbered 0 MAX_SEED (decimal seed) >>= λ m. Some (made (x ∷ xs) n m)) (numbered_back 1 MAX_CYCLES cycles small_cycles within.0 within.1)
    ∙ ap (λ o. o >>= λ m. Some (made (x ∷ xs) cycles m)) (numbered_back 0 MAX_SEED seed small_seed (omega arith) bound)

world_asked : (x z : ℕ) (xs zs : Text) (cycles : ℕ) → x ≢ 45 → IsWithin 1 MAX_CYCLES cycles → z ≢ 45 →
    asked_of (codes "run" ∷ (x ∷ xs) ∷ decimal cycles ∷ codes "--world" ∷ (z ∷ zs) ∷ []) ≡ Some (run_world (x ∷ xs) cycles (z ∷ zs))
world_asked x z xs zs cycles letter within other =
    let c = plain_number cycles (omega (arith, within.1, small_cycles)) in
    let given : asked_of (codes "run" ∷ (x ∷ xs) ∷ decimal cycles ∷ codes "--world" ∷ (z ∷ zs) ∷ [])
    ≡ (numbered 1 MAX_CYCLES (decimal cycles) >>= λ n. Some (run_world (x ∷ xs) n (z ∷ zs))) =
    rw (c.is) (world_form x c.first z xs c.more zs (plain_letter x letter) c.plain (plain_letter z other)) in
    given ∙ ap (λ o. o >>= λ n. Some (run_world (x ∷ xs) n (z ∷ zs))) (numbered_back 1 MAX_CYCLES cycles small_cycles within.0 within.1)

gen_asked : (seed devices frames z : ℕ) (zs : Text) → seed ≤ MAX_SEED → IsWithin MIN_GENERATED MAX_DEVICES devices → frames ≤ MAX_DEMANDS → z ≢ 45 →
    asked_of (codes "gen" ∷ decimal seed ∷ decimal devices ∷ decimal frames ∷ (z ∷ zs) ∷ []) ≡ Some (gen seed devices frames (z ∷ zs))
gen_asked seed devices frames z zs bound within most letter =
    let s = plain_number seed (omega (arith, small_seed)) in
    let d = plain_number devices (omega (arith, within.1)) in
    let f = plain_number frames (omega arith) in
    let given : asked_of (codes "gen" ∷ decimal seed ∷ decimal devices ∷ decimal frames ∷ (z ∷ zs) ∷ [])
    ≡ gen_numbered (decimal seed) (decimal devices) (decimal frames) (z ∷ zs) =
    rw (s.is, d.is, f.is) (gen_form s.first d.first f.first z s.more d.more f.more zs s.plain d.plain f.plain (plain_letter z letter)) in
    given
    ∙ ap (λ o. o >>= λ a. numbered MIN_GENERATED MAX_DEVICES (decimal devices) >>= λ b. numbered 0 MAX_DEMANDS (decimal frames) >>= λ c. Some (gen a b c (z ∷ zs)))
    (numbered_back 0 MAX_SEED seed small_seed (omega arith) bound)
    ∙ ap (λ o. o >>= λ b. numbered 0 MAX_DEMANDS (decimal frames) >>= λ c. Some (gen seed b c (z ∷ zs))) (numbered_back MIN_GENERATED MAX_DEVICES devices (omega arith) within.0 within.1)
    ∙ ap (λ o. o >>= λ c. Some (gen seed devices c (z ∷ zs))) (numbered_back 0 MAX_DEMANDS frames (omega arith) (omega arith) most)

pub stated_asked : (command : Command) → IsStated command → asked_of (words_of command) ≡ Some command
stated_asked (plan []) stated = absurd stated
stated_asked (plan (x ∷ xs)) stated = plan_form x xs (plain_letter x stated)
stated_asked (check []) stated = absurd stated
stated_asked (check (x ∷ xs)) stated = check_form x xs (plain_letter x stated)
stated_asked (show []) stated = absurd stated
stated_asked (show (x ∷ xs)) stated = show_form x xs (plain_letter x stated)
stated_asked (sync [] cycles seed) stated = absurd stated.0
stated_asked (sync (x ∷ xs) cycles seed) stated = seeded_asked sync (codes "sync") sync_form x xs cycles seed stated.0 stated.1 stated.2
stated_asked (run [] cycles seed) stated = absurd stated.0
stated_asked (run (x ∷ xs) cycles seed) stated = seeded_asked run (codes "run") run_form x xs cycles seed stated.0 stated.1 stated.2
stated_asked (run_world [] cycles world) stated = absurd stated.0
stated_asked (run_world (x ∷ xs) cycles []) stated = absurd stated.2
stated_asked (run_world (x ∷ xs) cycles (z ∷ zs)) stated = world_asked x z xs zs cycles stated.0 stated.1 stated.2
stated_asked (gen seed devices frames []) stated = absurd stated.3
stated_asked (gen seed devices frames (z ∷ zs)) stated = gen_asked seed devices frames z zs stated.0 stated.1 stated.2 stated.3
stated_asked (free [] cycles seed) stated = absurd stated.0
stated_asked (free (x ∷ xs) cycles seed) stated = seeded_asked free (codes "free") free_form x xs cycles seed stated.0 stated.1 stated.2
