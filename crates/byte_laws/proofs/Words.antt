-- The words of byteorder, the highest byte first, in lists of bytes.
use Rattle.std.proofs.Common.{◌≡◌, ℕ, zero, suc, ◌+◌, ◌*◌, ◌/◌, ◌^◌, ◌<◌, ◌≤◌, List, [], ◌∷◌, ◌++◌, length, take, drop, refl, sym, ap, ◌∙◌, arith, inl, inr}
use Rattle.std.specs.List.{AllByRecursion}
use Rattle.std.specs.Int.{byte_at}
use Rattle.std.proofs.lemmas.Bool.{cases_lt}
use Rattle.std.proofs.lemmas.List.{take-append-drop, drop-drop, drop_all, append-nil, length-take, length-take-le, length-drop, get_or-drop, get_or-take, get_or_past}
use Rattle.std.proofs.lemmas.Nat.{div-mul-add}
use Rattle.byteorder.specs.Endian.{big_number, big_bytes}
use Rattle.byteorder.specs.Numbers.{big_number-reads_back, big_from-cons, big_from-lt, big_from-take, length-bytes_high_first}
use Rattle.byte_laws.specs.Spelling.{IsBytes}

-- ---- lists of bytes

pub IsBytes-drop : (n : ℕ) (bytes : List ℕ) → IsBytes bytes → IsBytes (drop n bytes)
IsBytes-drop n bytes h i = rw get_or-drop (h (n + i))

pub IsBytes-take : (n : ℕ) (bytes : List ℕ) → IsBytes bytes → IsBytes (take n bytes)
IsBytes-take n bytes h i =
    elim (cases_lt i n) [
      | inl lt ↦ rw (get_or-take n bytes i 0 lt) (h i)
      | inr le ↦ rw (get_or_past (take n bytes) i 0 (omega (arith, length-take n bytes))) (omega arith)
    ]

IsBytes-rest : (b : ℕ) (bytes : List ℕ) → IsBytes (b ∷ bytes) → IsBytes bytes
IsBytes-rest b bytes h i = h (suc i)

pub each_byte : (bytes : List ℕ) → IsBytes bytes → AllByRecursion (λ b. b < 256) bytes
each_byte [] h = tt
each_byte (b ∷ bytes) h = (h 0, each_byte bytes (IsBytes-rest b bytes h))

byte_at-lt : (n x : ℕ) → byte_at n x < 256
byte_at-lt zero x = omega arith
byte_at-lt (suc n) x = omega arith

pub IsBytes-word : (n x : ℕ) → IsBytes (big_bytes n x)
IsBytes-word zero x i = omega arith
IsBytes-word (suc n) x zero = byte_at-lt n x
IsBytes-word (suc n) x (suc i) = IsBytes-word n x i

-- ---- words of n bytes

pub length-word : (n x : ℕ) → length (big_bytes n x) ≡ n
length-word n x = length-bytes_high_first n x

pub word-lt : (n : ℕ) (bytes : List ℕ) → IsBytes bytes → big_number n bytes < 256 ^ n
word-lt n bytes fits = big_from-lt 0 n bytes fits

-- two digits to a base tell their number
high_is : (a b p r s : ℕ) → r < p → s < p → a * p + r ≡ b * p + s → a ≡ b
high_is a b p r s r_lt s_lt e = sym (div-mul-add a p r r_lt) ∙ ap (λ n. n / p) e ∙ div-mul-add b p s s_lt

low_is : (a b p r s : ℕ) → a ≡ b → a * p + r ≡ b * p + s → r ≡ s
low_is a b p r s same e = let t : a * p ≡ b * p = ap (λ n. n * p) same in omega arith

-- n bytes of the same number are the same
same_word : (n : ℕ) (xs ys : List ℕ) → length xs ≡ n → length ys ≡ n → IsBytes xs → IsBytes ys → big_number n xs ≡ big_number n ys → xs ≡ ys
same_word zero [] [] xs_long ys_long xs_fit ys_fit e = refl
same_word zero (a ∷ xs) ys xs_long ys_long xs_fit ys_fit e = absurd (omega arith)
same_word zero [] (b ∷ ys) xs_long ys_long xs_fit ys_fit e = absurd (omega arith)
same_word (suc n) [] ys xs_long ys_long xs_fit ys_fit e = absurd (omega arith)
same_word (suc n) (a ∷ xs) [] xs_long ys_long xs_fit ys_fit e = absurd (omega arith)
same_word (suc n) (a ∷ xs) (b ∷ ys) xs_long ys_long xs_fit ys_fit e =
    let xs_bytes = IsBytes-rest a xs xs_fit in
    let ys_bytes = IsBytes-rest b ys ys_fit in
    let digits : a * 256 ^ n + big_number n xs ≡ b * 256 ^ n + big_number n ys =
    ap (λ r. a * 256 ^ n + r) (sym (big_from-cons 0 n a xs)) ∙ e ∙ ap (λ r. b * 256 ^ n + r) (big_from-cons 0 n b ys) in
    let high : a ≡ b = high_is a b (256 ^ n) (big_number n xs) (big_number n ys) (word-lt n xs xs_bytes) (word-lt n ys ys_bytes) digits in
    let low : big_number n xs ≡ big_number n ys = low_is a b (256 ^ n) (big_number n xs) (big_number n ys) high digits in
    let others : xs ≡ ys = same_word n xs ys (omega arith) (omega arith) xs_bytes ys_bytes low in cc

word_back : (n : ℕ) (bytes : List ℕ) → length bytes ≡ n → IsBytes bytes → big_bytes n (big_number n bytes) ≡ bytes
word_back n bytes long fits =
    let number : ℕ = big_number n bytes in
    let again : big_number n (big_bytes n number) ≡ number = ap (big_number n) (sym (append-nil (big_bytes n number))) ∙ big_number-reads_back n number [] (word-lt n bytes fits) in
    same_word n (big_bytes n number) bytes (length-word n number) long (IsBytes-word n number) fits again

-- the first bytes are those of the word that they are read as
pub word_of_take : (n : ℕ) (bytes : List ℕ) → n ≤ length bytes → IsBytes bytes → big_bytes n (big_number n bytes) ≡ take n bytes
word_of_take n bytes long fits =
    ap (big_bytes n) (sym (big_from-take 0 n n bytes (omega arith)))
    ∙ word_back n (take n bytes) (length-take-le n bytes long) (IsBytes-take n bytes fits)

-- ---- bytes cut at their fields

-- m bytes from place n, and the others
pub cut_at : (n m : ℕ) (bytes : List ℕ) → drop n bytes ≡ take m (drop n bytes) ++ drop (n + m) bytes
cut_at n m bytes = sym (take-append-drop m (drop n bytes)) ∙ ap (λ rest. take m (drop n bytes) ++ rest) (drop-drop m n bytes)

-- a word of m bytes at place n, and the others
pub word_at : (m n : ℕ) (bytes : List ℕ) → n + m ≤ length bytes → IsBytes bytes → drop n bytes ≡ big_bytes m (big_number m (drop n bytes)) ++ drop (n + m) bytes
word_at m n bytes long fits =
    cut_at n m bytes
    ∙ ap (λ front. front ++ drop (n + m) bytes) (sym (word_of_take m (drop n bytes) (omega (arith, length-drop n bytes)) (IsBytes-drop n bytes fits)))

-- the same where nothing stands behind it
pub last_word_at : (m n : ℕ) (bytes : List ℕ) → length bytes ≡ n + m → IsBytes bytes → drop n bytes ≡ big_bytes m (big_number m (drop n bytes))
last_word_at m n bytes long fits =
    word_at m n bytes (omega arith) fits
    ∙ ap (λ rest. big_bytes m (big_number m (drop n bytes)) ++ rest) (drop_all (n + m) bytes (omega arith))
    ∙ append-nil (big_bytes m (big_number m (drop n bytes)))
