-- The least clash by the places of its slots, and that there is one answer.
use Rattle.std.proofs.Common.{◌≡◌, ◌<◌, ◌≤◌, ◌+◌, ◌⊎◌, inl, inr, ℕ, List, length, get_or, Option, None, Some, Contains, refl, sym, ◌∙◌, ap, subst, arith}
use Rattle.std.proofs.lemmas.Bool.{cases_lt, cases_eq}
use Rattle.std.proofs.lemmas.List.{get_or_default}
use Rattle.std.proofs.lemmas.List.Elements.{Contains-get_or}
use Rattle.irt_base.specs.declared.numbers.FrameId.{FrameId}
use Rattle.window_sweep.specs.declared.slot.SendSlot.{SendSlot}
use Rattle.window_sweep.specs.Slots.{AreSendSlots, IsClear, Share, slack}
use Rattle.window_sweep.specs.Clashes.{AreClear, Clash, IsClash, IsLeastClash, IsFirstClash, IsUpTo}

decide_either : (p q r s : ℕ) → ((p ≤ q) ⊎ (r ≤ s)) ⊎ (¬ ((p ≤ q) ⊎ (r ≤ s)))
decide_either p q r s =
    elim (cases_lt q p) [
      | inr first ↦ inl (inl first)
      | inl late ↦ elim (cases_lt s r) [
        | inr second ↦ inl (inr second)
        | inl later ↦ inr (λ h. elim h [ inl x ↦ omega arith | inr y ↦ omega arith ])
      ]
    ]

-- two slots that share a cycle and don't clash keep clear
pub clear_unless_clash : (window : ℕ) (a b : SendSlot) → Share a b → ¬ Clash window a b → IsClear window a b
clear_unless_clash window a b share none =
    elim (decide_either (a.end + slack window a b) b.lo (b.end + slack window b a) a.lo) [
      | inl clear ↦ clear
      | inr meet ↦ absurd (none (record { share = share; meet = meet }))
    ]

-- where a member stands
pub place_of : (slots : List SendSlot) (a d : SendSlot) → Contains slots a → (i : ℕ) × (i < length slots) × (get_or slots i d ≡ a)
place_of slots a d h = (h.0, h.1, get_or_default slots h.0 d a h.1 ∙ h.2)

abbrev pub frame_at : List SendSlot → ℕ → SendSlot → ℕ
frame_at slots i d = (get_or slots i d).frame.0

pub later_frame : (slots : List SendSlot) → AreSendSlots slots → (i j : ℕ) (d : SendSlot) → i ≤ j → j < length slots → frame_at slots i d ≤ frame_at slots j d
later_frame slots valid i j d below inside =
    elim (cases_lt i j) [
      | inl less ↦ let rise : frame_at slots i d < frame_at slots j d = valid.ascending i j d less inside in omega arith
      | inr same ↦ let e : i ≡ j = omega arith in let f = ap (λ (n : ℕ). frame_at slots n d) e in omega (arith, f)
    ]

-- the lesser frame stands first
pub frame_order : (slots : List SendSlot) → AreSendSlots slots → (i j : ℕ) (d : SendSlot) → i < length slots → frame_at slots i d < frame_at slots j d → i < j
frame_order slots valid i j d inside below =
    elim (cases_lt i j) [
      | inl less ↦ less
      | inr other ↦ let rise = later_frame slots valid j i d other inside in absurd (omega (arith, rise))
    ]

-- two members by their places
pub record Placed (window : ℕ) (slots : List SendSlot) (f g : ℕ) (d : SendSlot) : Type 0 where
  pub i : ℕ
  pub j : ℕ
  pub below : i < j
  pub inside : j < length slots
  pub first : frame_at slots i d ≡ f
  pub second : frame_at slots j d ≡ g
  pub clash : Clash window (get_or slots i d) (get_or slots j d)

pub placed : (window : ℕ) (slots : List SendSlot) (f g : ℕ) (d : SendSlot) → AreSendSlots slots → IsClash window slots f g → Placed window slots f g d
placed window slots f g d valid h =
    let p = place_of slots h.first d h.has_first in
    let q = place_of slots h.second d h.has_second in
    let first = ap (λ (s : SendSlot). s.frame.0) p.2 ∙ h.named_first in
    let second = ap (λ (s : SendSlot). s.frame.0) q.2 ∙ h.named_second in
    let rise : frame_at slots p.0 d < frame_at slots q.0 d = omega (arith, first, second, h.ordered) in
    let at_first = subst (λ (s : SendSlot). Clash window s h.second) (sym p.2) h.clash in
    record {
      i = p.0;
      j = q.0;
      below = frame_order slots valid p.0 q.0 d p.1 rise;
      inside = q.1;
      first = first;
      second = second;
      clash = subst (λ (s : SendSlot). Clash window (get_or slots p.0 d) s) (sym q.2) at_first;
    }

-- no pair that starts before a place clashes
abbrev pub NoneBefore : ℕ → List SendSlot → ℕ → Type 0
NoneBefore window slots p = (i j : ℕ) (d : SendSlot) → i < p → i < j → j < length slots → ¬ Clash window (get_or slots i d) (get_or slots j d)

up_to : (window : ℕ) (slots : List SendSlot) (p q : ℕ) (d : SendSlot) → AreSendSlots slots → q < length slots
    → NoneBefore window slots p
    → ((k : ℕ) (e : SendSlot) → p < k → k < q → ¬ Clash window (get_or slots p e) (get_or slots k e))
    → (f g : ℕ) → Placed window slots f g d → IsUpTo (frame_at slots p d) (frame_at slots q d) f g
up_to window slots p q d valid inside before after f g h =
    elim (cases_lt h.i p) [
      | inl early ↦ absurd (before h.i h.j d early h.below h.inside h.clash)
      | inr late ↦ elim (cases_eq h.i p) [
        | inl same ↦ elim (cases_lt h.j q) [
          | inl less ↦ absurd (after h.j d (omega (arith, h.below)) less (subst (λ (n : ℕ). Clash window (get_or slots n d) (get_or slots h.j d)) same h.clash))
          | inr more ↦
              let rise = later_frame slots valid q h.j d more h.inside in
              inr (ap (λ (n : ℕ). frame_at slots n d) (sym same) ∙ h.first, omega (arith, rise, h.second))
        ]
        | inr other ↦
            let rise : frame_at slots p d < frame_at slots h.i d = valid.ascending p h.i d (omega arith) (omega (arith, h.below, h.inside)) in
            inl (omega (arith, rise, h.first))
      ]
    ]

pub pair_is_least : (window : ℕ) (slots : List SendSlot) (p q : ℕ) (d : SendSlot) → AreSendSlots slots → p < q → q < length slots
    → Clash window (get_or slots p d) (get_or slots q d)
    → NoneBefore window slots p
    → ((k : ℕ) (e : SendSlot) → p < k → k < q → ¬ Clash window (get_or slots p e) (get_or slots k e))
    → IsLeastClash window slots (frame_at slots p d) (frame_at slots q d)
pair_is_least window slots p q d valid below inside clash before after = record {
  is = record {
    first = get_or slots p d;
    second = get_or slots q d;
    has_first = Contains-get_or slots p d (omega arith);
    has_second = Contains-get_or slots q d inside;
    named_first = refl;
    named_second = refl;
    ordered = valid.ascending p q d below inside;
    clash = clash;
  };
  least = λ f g h. up_to window slots p q d valid inside before after f g (placed window slots f g d valid h);
}

-- no pair clashes: the rule holds
pub no_pair_is_clear : (window : ℕ) (slots : List SendSlot) → AreSendSlots slots → NoneBefore window slots (length slots) → AreClear window slots
no_pair_is_clear window slots valid none = record {
  each = λ a b has_a has_b below share. clear_unless_clash window a b share
      (λ clash.
      let h = placed window slots a.frame.0 b.frame.0 a valid (record { first = a; second = b; has_first = has_a; has_second = has_b; named_first = refl; named_second = refl; ordered = below; clash = clash }) in
      none h.i h.j a (omega (arith, h.below, h.inside)) h.below h.inside h.clash);
}

pub clear_has_no_clash : (window : ℕ) (slots : List SendSlot) (f g : ℕ) → AreClear window slots → IsClash window slots f g → ⊥
clear_has_no_clash window slots f g clear h =
    h.clash.meet (clear.each h.first h.second h.has_first h.has_second (omega (arith, h.named_first, h.named_second, h.ordered)) h.clash.share)

same_pair : (p q : FrameId × FrameId) → p.0.0 ≡ q.0.0 → p.1.0 ≡ q.1.0 → p ≡ q
same_pair p q e h = λ i. (record { 0 = e i }, record { 0 = h i })

up_to_each_other : (f g f' g' : ℕ) → IsUpTo f g f' g' → IsUpTo f' g' f g → (f ≡ f') × (g ≡ g')
up_to_each_other f g f' g' h k = grind arith

-- there is one answer
pub one_first_clash : (window : ℕ) (slots : List SendSlot) (r o : Option (FrameId × FrameId)) → IsFirstClash window slots r → IsFirstClash window slots o → r ≡ o
one_first_clash window slots None None h k = refl
one_first_clash window slots None (Some p) h k = absurd (clear_has_no_clash window slots _ _ h k.is)
one_first_clash window slots (Some p) None h k = absurd (clear_has_no_clash window slots _ _ k h.is)
one_first_clash window slots (Some p) (Some q) h k =
    let both = up_to_each_other p.0.0 p.1.0 q.0.0 q.1.0 (h.least _ _ k.is) (k.least _ _ h.is) in
    ap Some (same_pair p q both.0 both.1)
