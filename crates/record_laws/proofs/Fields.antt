-- A field ends at a space, a line feed or a colon, and what stands before is determined.
use Rattle.std.proofs.Common.{◌≡◌, ◌<◌, ◌≤◌, ◌+◌, ◌*◌, ◌/◌, ◌%◌, ◌^◌, ◌==◌, ◌||◌, ℕ, zero, suc, Bool, true, false, List, [], ◌∷◌, ◌++◌, length, refl, sym, ◌∙◌, ap, subst, arith, append_assoc}
use Rattle.std.specs.Prelude.{decimal, ℤ, pos, negsuc}
use Rattle.std.specs.Fmt.{signed_decimal}
use Rattle.std.specs.List.{AllByRecursion}
use Rattle.std.proofs.lemmas.Bool.Decides.{nat_tests}
use Rattle.std.proofs.lemmas.Int.{ints}
use Rattle.std.proofs.lemmas.Fmt.{decimal_by_steps, decimal_injective, decimal_nonempty}
use Rattle.std.proofs.Math.Nat.{pow-suc}
use Rattle.irt_base.specs.Text.{hex_digit, hex_digits}
use Rattle.irt_base.proofs.TextLemmas.{hex_digits-suc, hex_digits-zero, length-hex_digits}
use Rattle.irt_trace.specs.Journal.{field, time_field, frame_field}
use Rattle.record_text.specs.Text.{word_field, words_text, flag_field}
use Rattle.record_laws.specs.Fitting.{AreWords, IsTime}

-- a byte that ends a field
abbrev pub is_end : ℕ → Bool
is_end b = (b == 32) || (b == 10) || (b == 58)

abbrev pub IsPlain : List ℕ → Type 0
IsPlain text = AllByRecursion (λ b. is_end b ≡ false) text

abbrev pub Ends : List ℕ → Type 0
Ends [] = ⊥
Ends (b ∷ bs) = is_end b ≡ true

-- what is cut
abbrev pub Both : {X : Type 0} → X → X → List ℕ → List ℕ → Type 0
Both a b x y = (a ≡ b) × (x ≡ y)

pub head_same : (a b : ℕ) (x y : List ℕ) → a ∷ x ≡ b ∷ y → (a ≡ b) × (x ≡ y)
head_same a b x y same = (cc, cc)

no_end : (b : ℕ) (bs x : List ℕ) → Ends x → is_end b ≡ false → x ≡ b ∷ bs → ⊥
no_end b bs [] ends plain same = absurd ends
no_end b bs (c ∷ x) ends plain same = absurd (cc)

pub cut : (a b x y : List ℕ) → IsPlain a → IsPlain b → Ends x → Ends y → a ++ x ≡ b ++ y → Both a b x y
cut [] [] x y pa pb ex ey same = (refl, same)
cut [] (c ∷ b) x y pa pb ex ey same = absurd (no_end c (b ++ y) x ex pb.0 same)
cut (c ∷ a) [] x y pa pb ex ey same = absurd (no_end c (a ++ x) y ey pa.0 (sym same))
cut (c ∷ a) (d ∷ b) x y pa pb ex ey same =
    let (first, rest) = head_same c d (a ++ x) (b ++ y) same in
    let (more, left) = cut a b x y pa.1 pb.1 ex ey rest in
    (cc, left)

-- ---- decimal numbers

pub plain_more : (a b : List ℕ) → IsPlain a → IsPlain b → IsPlain (a ++ b)
plain_more [] b pa pb = pb
plain_more (c ∷ a) b pa pb = (pa.0, plain_more a b pa.1 pb)

digit_plain : (n : ℕ) → n < 10 → is_end (48 + n) ≡ false
digit_plain n small = grind (arith, nat_tests)

pub decimal-plain : (n : ℕ) → n < 2 ^ 64 → IsPlain (decimal n)
decimal-plain =
    decimal_by_steps (λ n text. IsPlain text) (λ n small. (digit_plain n small, tt))
    (λ n text large plain. plain_more text ((48 + n % 10) ∷ []) plain (digit_plain (n % 10) (omega arith), tt))

pub field_cut : (m n : ℕ) (x y : List ℕ) → m < 2 ^ 64 → n < 2 ^ 64 → Ends x → Ends y → field m ++ x ≡ field n ++ y → Both m n x y
field_cut m n x y fm fn ex ey same =
    let rest = head_same 32 32 (decimal m ++ x) (decimal n ++ y) same in
    let (text, left) = cut (decimal m) (decimal n) x y (decimal-plain m fm) (decimal-plain n fn) ex ey rest.1 in
    (decimal_injective m n fm fn text, left)

-- ---- times

pub plus_size : (n : ℕ) → IsTime (pos n) → n < 2 ^ 64
plus_size n fits = omega (arith, ints, fits)

pub minus_size : (n : ℕ) → IsTime (negsuc n) → suc n < 2 ^ 64
minus_size n fits = omega (arith, ints, fits)

pub time-plain : (z : ℤ) → IsTime z → IsPlain (signed_decimal z)
time-plain (pos n) fits = decimal-plain n (plus_size n fits)
time-plain (negsuc n) fits = (refl, decimal-plain (suc n) (minus_size n fits))

-- no digit is a minus
no_minus : (text rest : List ℕ) → AllByRecursion (λ b. 48 ≤ b) text → 0 < length text → text ≡ 45 ∷ rest → ⊥
no_minus [] rest digits some same = omega arith
no_minus (b ∷ text) rest digits some same = omega (arith, digits.0, (head_same b 45 text rest same).0)

digits_more : (a b : List ℕ) → AllByRecursion (λ b. 48 ≤ b) a → AllByRecursion (λ b. 48 ≤ b) b → AllByRecursion (λ b. 48 ≤ b) (a ++ b)
digits_more [] b pa pb = pb
digits_more (c ∷ a) b pa pb = (pa.0, digits_more a b pa.1 pb)

pub decimal-digits : (n : ℕ) → n < 2 ^ 64 → AllByRecursion (λ b. 48 ≤ b) (decimal n)
decimal-digits =
    decimal_by_steps (λ n text. AllByRecursion (λ b. 48 ≤ b) text) (λ n small. (omega arith, tt))
    (λ n text large digits. digits_more text ((48 + n % 10) ∷ []) digits (omega arith, tt))

time-one : (m n : ℤ) → IsTime m → IsTime n → signed_decimal m ≡ signed_decimal n → m ≡ n
time-one (pos m) (pos n) fm fn same = ap (λ k. pos k) (decimal_injective m n (plus_size m fm) (plus_size n fn) same)
time-one (pos m) (negsuc n) fm fn same =
    let size = plus_size m fm in
    absurd (no_minus (decimal m) (decimal (suc n)) (decimal-digits m size) (decimal_nonempty m size) same)
time-one (negsuc m) (pos n) fm fn same =
    let size = plus_size n fn in
    absurd (no_minus (decimal n) (decimal (suc m)) (decimal-digits n size) (decimal_nonempty n size) (sym same))
time-one (negsuc m) (negsuc n) fm fn same =
    let text = head_same 45 45 (decimal (suc m)) (decimal (suc n)) same in
    let size : suc m ≡ suc n = decimal_injective (suc m) (suc n) (minus_size m fm) (minus_size n fn) text.1 in
    let less : m ≡ n = omega arith in
    ap (λ k. negsuc k) less

pub time_cut : (m n : ℤ) (x y : List ℕ) → IsTime m → IsTime n → Ends x → Ends y → time_field m ++ x ≡ time_field n ++ y → Both m n x y
time_cut m n x y fm fn ex ey same =
    let rest = head_same 32 32 (signed_decimal m ++ x) (signed_decimal n ++ y) same in
    let (text, left) = cut (signed_decimal m) (signed_decimal n) x y (time-plain m fm) (time-plain n fn) ex ey rest.1 in
    (time-one m n fm fn text, left)

-- ---- hexadecimal digits

hex_digit-plain : (n : ℕ) → n < 16 → is_end (hex_digit n) ≡ false
hex_digit-plain n small = grind (arith, nat_tests)

hex_digit-one : (m n : ℕ) → m < 16 → n < 16 → hex_digit m ≡ hex_digit n → m ≡ n
hex_digit-one m n fm fn same = grind (arith, nat_tests)

pub hex_digits-plain : (count n : ℕ) → IsPlain (hex_digits count n)
hex_digits-plain zero n = subst IsPlain (sym (hex_digits-zero n)) tt
hex_digits-plain (suc count) n =
    subst IsPlain (sym (hex_digits-suc count n))
    (plain_more (hex_digits count (n / 16)) (hex_digit (n % 16) ∷ []) (hex_digits-plain count (n / 16)) (hex_digit-plain (n % 16) (omega arith), tt))

ends_same : (a b : List ℕ) (c d : ℕ) → a ++ c ∷ [] ≡ b ++ d ∷ [] → (a ≡ b) × (c ≡ d)
ends_same [] [] c d same = (refl, cc)
ends_same [] (e ∷ []) c d same = absurd (cc)
ends_same [] (e ∷ f ∷ b) c d same = absurd (cc)
ends_same (e ∷ []) [] c d same = absurd (cc)
ends_same (e ∷ f ∷ a) [] c d same = absurd (cc)
ends_same (e ∷ a) (f ∷ b) c d same =
    let (first, rest) = head_same e f (a ++ c ∷ []) (b ++ d ∷ []) same in
    let (more, last) = ends_same a b c d rest in
    (cc, last)

pub hex_digits-one : (count m n : ℕ) → m < 16 ^ count → n < 16 ^ count → hex_digits count m ≡ hex_digits count n → m ≡ n
hex_digits-one zero m n fm fn same = omega arith
hex_digits-one (suc count) m n fm fn same =
    let (front, last) = ends_same (hex_digits count (m / 16)) (hex_digits count (n / 16)) (hex_digit (m % 16)) (hex_digit (n % 16))
    (sym (hex_digits-suc count m) ∙ same ∙ hex_digits-suc count n) in
    let power : 16 ^ suc count ≡ 16 ^ count * 16 = pow-suc 16 count in
    let high : m / 16 ≡ n / 16 = hex_digits-one count (m / 16) (n / 16) (omega arith) (omega arith) front in
    let low : m % 16 ≡ n % 16 = hex_digit-one (m % 16) (n % 16) (omega arith) (omega arith) last in
    omega arith

pub word_cut : (m n : ℕ) (x y : List ℕ) → m < 2 ^ 64 → n < 2 ^ 64 → Ends x → Ends y → word_field m ++ x ≡ word_field n ++ y → Both m n x y
word_cut m n x y fm fn ex ey same =
    let rest = head_same 32 32 (hex_digits 16 m ++ x) (hex_digits 16 n ++ y) same in
    let (text, left) = cut (hex_digits 16 m) (hex_digits 16 n) x y (hex_digits-plain 16 m) (hex_digits-plain 16 n) ex ey rest.1 in
    (hex_digits-one 16 m n fm fn text, left)

pub frame_cut : (m n : ℕ) (x y : List ℕ) → m < 2 ^ 16 → n < 2 ^ 16 → Ends x → Ends y → frame_field m ++ x ≡ frame_field n ++ y → Both m n x y
frame_cut m n x y fm fn ex ey same =
    let rest : hex_digits 4 m ++ x ≡ hex_digits 4 n ++ y = cc in
    let (text, left) = cut (hex_digits 4 m) (hex_digits 4 n) x y (hex_digits-plain 4 m) (hex_digits-plain 4 n) ex ey rest in
    (hex_digits-one 4 m n fm fn text, left)

pub flag_cut : (a b : Bool) (x y : List ℕ) → flag_field a ++ x ≡ flag_field b ++ y → Both a b x y
flag_cut true true x y same = (refl, cc)
flag_cut false false x y same = (refl, cc)
flag_cut true false x y same = absurd (omega (arith, (head_same 49 48 x y (head_same 32 32 (49 ∷ x) (48 ∷ y) same).1).0))
flag_cut false true x y same = absurd (omega (arith, (head_same 48 49 x y (head_same 32 32 (48 ∷ x) (49 ∷ y) same).1).0))

-- ---- words: behind them a line ends, or a colon stands

pub data Stops : List ℕ → Type 0 where
  at_end : (t : List ℕ) → Stops (10 ∷ t)
  at_colon : (t : List ℕ) → Stops (32 ∷ 58 ∷ t)

pub stops_end : (x : List ℕ) → Stops x → Ends x
stops_end x (at_end t) = refl
stops_end x (at_colon t) = refl

pub words_end : (ws : List ℕ) (x : List ℕ) → Stops x → Ends (words_text ws ++ x)
words_end [] x stops = stops_end x stops
words_end (w ∷ ws) x stops = refl

no_word : (v : ℕ) (rest x : List ℕ) → Stops x → Ends rest → x ≡ word_field v ++ rest → ⊥
no_word v rest x (at_end t) ends same = absurd (cc)
no_word v rest x (at_colon t) ends same =
    let (none, left) = cut (hex_digits 16 v) [] rest (58 ∷ t) (hex_digits-plain 16 v) tt ends refl (sym (head_same 32 32 (58 ∷ t) (hex_digits 16 v ++ rest) same).1) in
    let counts : length (hex_digits 16 v) ≡ 16 = length-hex_digits 16 v in
    let nothing : length (hex_digits 16 v) ≡ 0 = ap length none in
    absurd (omega arith)

word_first : (w : ℕ) (ws x : List ℕ) → words_text (w ∷ ws) ++ x ≡ word_field w ++ (words_text ws ++ x)
word_first w ws x = append_assoc (word_field w) (words_text ws) x

pub words_cut : (ws vs x y : List ℕ) → AreWords ws → AreWords vs → Stops x → Stops y → words_text ws ++ x ≡ words_text vs ++ y → Both ws vs x y
words_cut [] [] x y fw fv sx sy same = (refl, same)
words_cut [] (v ∷ vs) x y fw fv sx sy same = absurd (no_word v (words_text vs ++ y) x sx (words_end vs y sy) (same ∙ word_first v vs y))
words_cut (w ∷ ws) [] x y fw fv sx sy same = absurd (no_word w (words_text ws ++ x) y sy (words_end ws x sx) (sym same ∙ word_first w ws x))
words_cut (w ∷ ws) (v ∷ vs) x y fw fv sx sy same =
    let (first, rest) = word_cut w v (words_text ws ++ x) (words_text vs ++ y) fw.0 fv.0 (words_end ws x sx) (words_end vs y sy)
    (sym (word_first w ws x) ∙ same ∙ word_first v vs y) in
    let (more, left) = words_cut ws vs x y fw.1 fv.1 sx sy rest in
    (cc, left)
