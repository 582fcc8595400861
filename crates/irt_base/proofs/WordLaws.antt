-- Words and their bytes.
use Rattle.std.proofs.Common.{◌≡◌, ◌<◌, ◌≤◌, ◌+◌, ◌*◌, ◌/◌, ◌^◌, ◌-◌, ℕ, zero, suc, List, [], ◌∷◌, ◌++◌, length, take, drop, get_or, refl, sym, ◌∙◌, ap, arith, lit<}
use Rattle.std.specs.List.{AllByRecursion}
use Rattle.std.specs.Int.{w64, to_be_bytes, from_be_bytes}
use Rattle.std.proofs.lemmas.Nat.{be_bytes_8, from_be_bytes-to_be_bytes_8}
use Rattle.irt_base.specs.Valid.{AreBytes}
use Rattle.irt_base.specs.Words.{word_bytes, bytes_of, words_of}

-- numbers of 64 bits
abbrev pub AreWords : List ℕ → Type 0
AreWords words = AllByRecursion (λ w. w < 2 ^ 64) words

-- a worked value
two_words : words_of (0 ∷ 0 ∷ 0 ∷ 0 ∷ 0 ∷ 0 ∷ 1 ∷ 2 ∷ 0 ∷ 0 ∷ 0 ∷ 0 ∷ 0 ∷ 0 ∷ 0 ∷ 128 ∷ 9 ∷ []) ≡ 258 ∷ 128 ∷ []
two_words = refl

pub length-bytes_of : (words : List ℕ) → length (bytes_of words) ≡ 8 * length words
length-bytes_of [] = refl
length-bytes_of (w ∷ words) = omega (arith, length-bytes_of words)

pub bytes_of-AreBytes : (words : List ℕ) → AreBytes (bytes_of words)
bytes_of-AreBytes [] = tt
bytes_of-AreBytes (w ∷ words) =
    (omega arith, (omega arith, (omega arith, (omega arith, (omega arith, (omega arith, (omega arith, (omega arith, bytes_of-AreBytes words))))))))

pub words_of-bytes_of : (words : List ℕ) → AreWords words → words_of (bytes_of words) ≡ words
words_of-bytes_of [] fit = refl
words_of-bytes_of (w ∷ words) fit =
    ap (λ n. n ∷ words_of (bytes_of words)) (from_be_bytes-to_be_bytes_8 w fit.0) ∙ ap (λ l. w ∷ l) (words_of-bytes_of words fit.1)

pub length-words_of : (bytes : List ℕ) → length (words_of bytes) ≡ length bytes / 8
length-words_of (a ∷ b ∷ c ∷ d ∷ e ∷ f ∷ g ∷ h ∷ rest) = omega (arith, length-words_of rest)
length-words_of [] = refl
length-words_of (a ∷ []) = refl
length-words_of (a ∷ b ∷ []) = refl
length-words_of (a ∷ b ∷ c ∷ []) = refl
length-words_of (a ∷ b ∷ c ∷ d ∷ []) = refl
length-words_of (a ∷ b ∷ c ∷ d ∷ e ∷ []) = refl
length-words_of (a ∷ b ∷ c ∷ d ∷ e ∷ f ∷ []) = refl
length-words_of (a ∷ b ∷ c ∷ d ∷ e ∷ f ∷ g ∷ []) = refl

pub words_of-AreWords : (bytes : List ℕ) → AreBytes bytes → AreWords (words_of bytes)
words_of-AreWords (a ∷ b ∷ c ∷ d ∷ e ∷ f ∷ g ∷ h ∷ rest) (pa, (pb, (pc, (pd, (pe, (pf, (pg, (ph, fit)))))))) =
    (omega (arith, pa, pb, pc, pd, pe, pf, pg, ph), words_of-AreWords rest fit)
words_of-AreWords [] fit = tt
words_of-AreWords (a ∷ []) fit = tt
words_of-AreWords (a ∷ b ∷ []) fit = tt
words_of-AreWords (a ∷ b ∷ c ∷ []) fit = tt
words_of-AreWords (a ∷ b ∷ c ∷ d ∷ []) fit = tt
words_of-AreWords (a ∷ b ∷ c ∷ d ∷ e ∷ []) fit = tt
words_of-AreWords (a ∷ b ∷ c ∷ d ∷ e ∷ f ∷ []) fit = tt
words_of-AreWords (a ∷ b ∷ c ∷ d ∷ e ∷ f ∷ g ∷ []) fit = tt

byte_there : (bytes : List ℕ) → AreBytes bytes → (i : ℕ) → get_or bytes i 0 < 256
byte_there [] fit i = lit< tt
byte_there (b ∷ bytes) fit zero = fit.0
byte_there (b ∷ bytes) fit (suc i) = byte_there bytes fit.1 i

-- the bytes of eight bytes' word are those bytes
eight_back : (a b c d e f g h : ℕ) → AreBytes (a ∷ b ∷ c ∷ d ∷ e ∷ f ∷ g ∷ h ∷ []) →
    word_bytes (from_be_bytes w64 (a ∷ b ∷ c ∷ d ∷ e ∷ f ∷ g ∷ h ∷ [])) ≡ a ∷ b ∷ c ∷ d ∷ e ∷ f ∷ g ∷ h ∷ []
eight_back a b c d e f g h fit =
    be_bytes_8 (a ∷ b ∷ c ∷ d ∷ e ∷ f ∷ g ∷ h ∷ []) _ refl (byte_there (a ∷ b ∷ c ∷ d ∷ e ∷ f ∷ g ∷ h ∷ []) fit) refl

pub bytes_of-words_of : (bytes : List ℕ) (count : ℕ) → length bytes ≡ 8 * count → AreBytes bytes → bytes_of (words_of bytes) ≡ bytes
bytes_of-words_of (a ∷ b ∷ c ∷ d ∷ e ∷ f ∷ g ∷ h ∷ rest) count is (pa, (pb, (pc, (pd, (pe, (pf, (pg, (ph, fit)))))))) =
    ap (λ l. l ++ bytes_of (words_of rest)) (eight_back a b c d e f g h (pa, (pb, (pc, (pd, (pe, (pf, (pg, (ph, tt)))))))))
    ∙ ap (λ l. a ∷ b ∷ c ∷ d ∷ e ∷ f ∷ g ∷ h ∷ l) (bytes_of-words_of rest (count - 1) (omega (arith, is)) fit)
bytes_of-words_of [] count is fit = refl
bytes_of-words_of (a ∷ []) count is fit = absurd (omega (arith, is))
bytes_of-words_of (a ∷ b ∷ []) count is fit = absurd (omega (arith, is))
bytes_of-words_of (a ∷ b ∷ c ∷ []) count is fit = absurd (omega (arith, is))
bytes_of-words_of (a ∷ b ∷ c ∷ d ∷ []) count is fit = absurd (omega (arith, is))
bytes_of-words_of (a ∷ b ∷ c ∷ d ∷ e ∷ []) count is fit = absurd (omega (arith, is))
bytes_of-words_of (a ∷ b ∷ c ∷ d ∷ e ∷ f ∷ []) count is fit = absurd (omega (arith, is))
bytes_of-words_of (a ∷ b ∷ c ∷ d ∷ e ∷ f ∷ g ∷ []) count is fit = absurd (omega (arith, is))

-- one more word at the front
pub words_of-next : (bytes : List ℕ) → 8 ≤ length bytes → words_of bytes ≡ from_be_bytes w64 (take 8 bytes) ∷ words_of (drop 8 bytes)
words_of-next (a ∷ b ∷ c ∷ d ∷ e ∷ f ∷ g ∷ h ∷ rest) long = refl
words_of-next [] long = absurd (omega (arith, long))
words_of-next (a ∷ []) long = absurd (omega (arith, long))
words_of-next (a ∷ b ∷ []) long = absurd (omega (arith, long))
words_of-next (a ∷ b ∷ c ∷ []) long = absurd (omega (arith, long))
words_of-next (a ∷ b ∷ c ∷ d ∷ []) long = absurd (omega (arith, long))
words_of-next (a ∷ b ∷ c ∷ d ∷ e ∷ []) long = absurd (omega (arith, long))
words_of-next (a ∷ b ∷ c ∷ d ∷ e ∷ f ∷ []) long = absurd (omega (arith, long))
words_of-next (a ∷ b ∷ c ∷ d ∷ e ∷ f ∷ g ∷ []) long = absurd (omega (arith, long))

pub words_of-after_words : (words bytes : List ℕ) → AreWords words → words_of (bytes_of words ++ bytes) ≡ words ++ words_of bytes
words_of-after_words [] bytes fit = refl
words_of-after_words (w ∷ words) bytes fit =
    ap (λ n. n ∷ words_of (bytes_of words ++ bytes)) (from_be_bytes-to_be_bytes_8 w fit.0)
    ∙ ap (λ l. w ∷ l) (words_of-after_words words bytes fit.1)
