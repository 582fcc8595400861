-- Three pieces written one behind the other fill a slice.
use Rattle.std.proofs.Common.{◌≡◌, ℕ, ◌+◌, ◌-◌, List, [], ◌++◌, length, take, drop, sym, ◌∙◌, ap, arith, append_assoc, length-append}
use Rattle.std.proofs.lemmas.List.{take_at, drop_at, drop_all, append-nil}
use borrow.Rule.Slice.PartMut.{put_mid}

module _ (size n : ℕ) (out head csdu tail : List ℕ) (head_long : length head ≡ size) (csdu_long : length csdu ≡ n) where
  rest : List ℕ
  rest = drop (size + n - size) (drop size (head ++ drop size out))

  two_pieces : put_mid size (size + n - size) (head ++ drop size out) csdu ≡ (head ++ csdu) ++ rest
  unfolding rest
  two_pieces = ap (λ l. l ++ (csdu ++ rest)) (take_at head (drop size out) size head_long) ∙ sym (append_assoc head csdu rest)

  joined : length (head ++ csdu) ≡ size + n
  joined = omega (arith, length-append head csdu)

  three_pieces : (before : List ℕ) → before ≡ (head ++ csdu) ++ rest →
      put_mid (size + n) (length before - (size + n)) before tail ≡ head ++ (csdu ++ tail)
  three_pieces before is =
      let front : take (size + n) before ≡ head ++ csdu = ap (take (size + n)) is ∙ take_at (head ++ csdu) rest (size + n) joined in
      let back : drop (size + n) before ≡ rest = ap (drop (size + n)) is ∙ drop_at (head ++ csdu) rest (size + n) joined in
      let long : length before ≡ size + n + length rest =
      ap length is ∙ length-append (head ++ csdu) rest ∙ ap (λ m. m + length rest) joined in
      let none : drop (length before - (size + n)) rest ≡ [] = drop_all (length before - (size + n)) rest (omega arith) in
      ap (λ l. l ++ (tail ++ drop (length before - (size + n)) (drop (size + n) before))) front
      ∙ ap (λ l. (head ++ csdu) ++ (tail ++ drop (length before - (size + n)) l)) back
      ∙ ap (λ l. (head ++ csdu) ++ (tail ++ l)) none
      ∙ ap (λ l. (head ++ csdu) ++ l) (append-nil tail)
      ∙ append_assoc head csdu tail

  pub pieces : put_mid (size + n) (length (put_mid size (size + n - size) (head ++ drop size out) csdu) - (size + n))
      (put_mid size (size + n - size) (head ++ drop size out) csdu) tail
      ≡ head ++ (csdu ++ tail)
  pieces = three_pieces (put_mid size (size + n - size) (head ++ drop size out) csdu) two_pieces
