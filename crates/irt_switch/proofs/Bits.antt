-- The bits of a `tx`, and the set of ports that it gives.
use Rattle.std.proofs.Common.{◌≡◌, ◌↔◌, ℕ, zero, suc, ◌/◌, ◌%◌, ◌^◌, ◌<◌, ◌≤◌, IsTrue, IsBitSet, bit_and, inl, inr, refl, sym, ◌∙◌, ap, arith}
use Rattle.std.proofs.Math.Nat.{div-div-eq-div-mul, zero-div, pow-succ'}
use Rattle.std.proofs.lemmas.Bool.{cases_lt}
use Rattle.std.proofs.lemmas.Bool.Decides.{nat_tests}
use Rattle.std.proofs.lemmas.Grind.{and_numeral}
use Rattle.std.proofs.lemmas.Nat.{bit_set_by_shift}
use Rattle.irt_base.specs.declared.blocks.Entry.{Entry}
use Rattle.plan_rules.specs.Way.{Leaves}
use Rattle.irt_switch.specs.Ports.{ports_of, is_kept}

low_bit : (n : ℕ) → bit_and n 1 ≡ n % 2
low_bit n = and_numeral n 0 refl

bit_is : (n k : ℕ) → IsBitSet n k → n / 2 ^ k % 2 ≡ 1
bit_is n k set = sym (low_bit (n / 2 ^ k)) ∙ (bit_set_by_shift n k).1 set

is_bit : (n k : ℕ) → n / 2 ^ k % 2 ≡ 1 → IsBitSet n k
is_bit n k odd = (bit_set_by_shift n k).0 (low_bit (n / 2 ^ k) ∙ odd)

halves : (n k : ℕ) → n / 2 ^ suc k ≡ n / 2 / 2 ^ k
halves n k = ap (λ m. n / m) (pow-succ' 2 k) ∙ sym (div-div-eq-div-mul n 2 (2 ^ k))

same_above : (tx k : ℕ) → ports_of tx / 2 ^ suc k ≡ tx / 2 ^ suc k
same_above tx k =
    let half : ports_of tx / 2 ≡ tx / 2 = omega arith in halves (ports_of tx) k ∙ ap (λ m. m / 2 ^ k) half ∙ sym (halves tx k)

-- bit 0 is clear, and each other bit is that of `tx`
pub ports_bits : (e : Entry) (port : ℕ) → IsBitSet (ports_of e.tx) port ↔ Leaves e port
ports_bits e zero = (
  λ set. let odd : ports_of e.tx / 1 % 2 ≡ 1 = bit_is (ports_of e.tx) 0 set in absurd (omega arith),
  λ leaves. let one = leaves.from_one in absurd (omega arith),
)
ports_bits e (suc k) = (
  λ set. record { from_one = omega arith; bit = is_bit e.tx (suc k) (ap (λ m. m % 2) (sym (same_above e.tx k)) ∙ bit_is (ports_of e.tx) (suc k) set) },
  λ leaves. is_bit (ports_of e.tx) (suc k) (ap (λ m. m % 2) (same_above e.tx k) ∙ bit_is e.tx (suc k) leaves.bit),
)

pub kept_bit : (tx : ℕ) → IsTrue (is_kept tx) ↔ IsBitSet tx 0
kept_bit tx = (
  λ kept. let odd : tx % 2 ≡ 1 = grind (arith, nat_tests) in is_bit tx 0 (let whole : tx / 2 ^ 0 ≡ tx = omega arith in ap (λ m. m % 2) whole ∙ odd),
  λ set. let odd : tx / 2 ^ 0 % 2 ≡ 1 = bit_is tx 0 set in let low : tx % 2 ≡ 1 = omega arith in grind (arith, nat_tests),
)

-- a frame that leaves by a port has one
pub some_ports : (e : Entry) (port : ℕ) → Leaves e port → 0 < ports_of e.tx
some_ports e zero leaves = let one = leaves.from_one in absurd (omega arith)
some_ports e (suc k) leaves =
    let odd = ap (λ m. m % 2) (same_above e.tx k) ∙ bit_is e.tx (suc k) leaves.bit in
    elim (cases_lt 0 (ports_of e.tx)) [
      | inl some ↦ some
      | inr none ↦
          let no : ports_of e.tx ≡ 0 = omega arith in
          let zeros : 0 / 2 ^ suc k % 2 ≡ 1 = ap (λ n. n / 2 ^ suc k % 2) (sym no) ∙ odd in
          let nothing : 0 / 2 ^ suc k ≡ 0 = zero-div (2 ^ suc k) in absurd (omega (arith, zeros, nothing))
    ]

at_bit : (e : Entry) (port : ℕ) → 1 ≤ port → e.tx / 2 ^ port % 2 ≡ 1 → (port : ℕ) × Leaves e port
at_bit e port one odd = (port, record { from_one = one; bit = is_bit e.tx port odd })

-- a set of ports that is not empty has a port: that of its highest bit
pub some_port : (e : Entry) → e.tx < 2 ^ 8 → 0 < ports_of e.tx → (port : ℕ) × Leaves e port
some_port e small some = elim (cases_lt e.tx 4) [
  | inl b1 ↦ at_bit e 1 (omega arith) (omega arith)
  | inr a1 ↦ elim (cases_lt e.tx 8) [
    | inl b2 ↦ at_bit e 2 (omega arith) (omega arith)
    | inr a2 ↦ elim (cases_lt e.tx 16) [
      | inl b3 ↦ at_bit e 3 (omega arith) (omega arith)
      | inr a3 ↦ elim (cases_lt e.tx 32) [
        | inl b4 ↦ at_bit e 4 (omega arith) (omega arith)
        | inr a4 ↦ elim (cases_lt e.tx 64) [
          | inl b5 ↦ at_bit e 5 (omega arith) (omega arith)
          | inr a5 ↦ elim (cases_lt e.tx 128) [
            | inl b6 ↦ at_bit e 6 (omega arith) (omega arith)
            | inr a6 ↦ at_bit e 7 (omega arith) (omega arith)
          ]
        ]
      ]
    ]
  ]
]
