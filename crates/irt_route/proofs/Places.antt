-- The first place of those without a walk.
use Rattle.std.proofs.Common.{◌≡◌, ◌<◌, ◌≤◌, ◌+◌, ◌&&◌, ◌||◌, ◌==◌, nat_lt, ℕ, Bool, true, false, if◌then◌else◌, List, [], ◌∷◌, ◌++◌, length, get_or, take, Option, Some, None, Contains, ◌⊎◌, inl, inr, refl, sym, ◌∙◌, ap, subst, arith}
use Rattle.std.proofs.lemmas.Bool.Decides.{nat_tests}
use Rattle.std.proofs.lemmas.List.{take_more, take_all, get_or_default}
use Rattle.std.proofs.lemmas.List.Elements.{Contains-append_left, Contains-push, Contains-push_cases, Contains-get_or}
use Rattle.irt_base.specs.declared.numbers.DevId.{DevId}
use Rattle.irt_base.specs.declared.numbers.FrameId.{FrameId}
use Rattle.irt_base.specs.declared.plants.Demand.{Demand}
use Rattle.irt_route.specs.Walks.{Peers, IsApart}
use Rattle.irt_route.specs.Routes.{IsAmong, IsUnreachedOf, IsUnreachedOne, IsUnreached, IsFirstPlace, IsNotAfter, IsDemandWithin, AreDemandsWithin, is_before, first_of}

abbrev Place : Type 0
Place = FrameId × DevId

before_true : (f d g e : ℕ) → (nat_lt f g || (f == g && nat_lt d e)) ≡ true → IsNotAfter f d g e
before_true f d g e h = grind (arith, nat_tests)

before_false : (f d g e : ℕ) → (nat_lt f g || (f == g && nat_lt d e)) ≡ false → IsNotAfter g e f d
before_false f d g e h = grind (arith, nat_tests)

itself : (f d : ℕ) → IsNotAfter f d f d
itself f d = inr (refl, omega arith)

after_both : (f d g e h c : ℕ) → IsNotAfter f d g e → IsNotAfter g e h c → IsNotAfter f d h c
after_both f d g e h c (inl a) (inl b) = inl (omega arith)
after_both f d g e h c (inl a) (inr b) = inl (omega (arith, b.0))
after_both f d g e h c (inr a) (inl b) = inl (omega (arith, a.0))
after_both f d g e h c (inr a) (inr b) = inr (a.0 ∙ b.0, omega (arith, a.1, b.1))

-- the first of two places is the first of those of both kinds
pub first_of_both : (P Q R : ℕ → ℕ → Type 0) → ((f d : ℕ) → P f d → R f d) → ((f d : ℕ) → Q f d → R f d) → ((f d : ℕ) → R f d → P f d ⊎ Q f d)
    → (a b : Option (FrameId × DevId)) → IsFirstPlace P a → IsFirstPlace Q b → IsFirstPlace R (first_of a b)
first_of_both P Q R left right cases None None p q = λ f d r. elim (cases f d r) [ inl h ↦ p f d h | inr h ↦ q f d h ]
first_of_both P Q R left right cases None (Some b) p q =
    (right b.0.0 b.1.0 q.0, λ f d r. elim (cases f d r) [ inl h ↦ absurd (p f d h) | inr h ↦ q.1 f d h ])
first_of_both P Q R left right cases (Some a) None p q =
    (left a.0.0 a.1.0 p.0, λ f d r. elim (cases f d r) [ inl h ↦ p.1 f d h | inr h ↦ absurd (q f d h) ])
first_of_both P Q R left right cases (Some a) (Some b) p q = chosen (is_before b a) refl
  where
    chosen : (first : Bool) → is_before b a ≡ first → IsFirstPlace R (if first then Some b else Some a)
    chosen true is = (
      right b.0.0 b.1.0 q.0,
      λ f d r. elim (cases f d r) [
        | inl h ↦ after_both b.0.0 b.1.0 a.0.0 a.1.0 f d (before_true b.0.0 b.1.0 a.0.0 a.1.0 is) (p.1 f d h)
        | inr h ↦ q.1 f d h
      ],
    )
    chosen false is = (
      left a.0.0 a.1.0 p.0,
      λ f d r. elim (cases f d r) [
        | inl h ↦ p.1 f d h
        | inr h ↦ after_both a.0.0 a.1.0 b.0.0 b.1.0 f d (before_false b.0.0 b.1.0 a.0.0 a.1.0 is) (q.1 f d h)
      ],
    )

-- of these consumers of a demand
pub record IsUnreachedIn (peers : Peers) (demand : Demand) (consumers : List DevId) (frame device : ℕ) : Type 0 where
  pub frame_is : demand.frame.0 ≡ frame
  pub consumer : IsAmong consumers device
  pub apart : IsApart peers demand.provider.0 device

none_in_none : {A : Type 0} (x : A) → Contains [] x → ⊥
none_in_none x (k, within, at) = omega arith

pub unreached_in-none : (peers : Peers) (demand : Demand) → IsFirstPlace (IsUnreachedIn peers demand []) None
unreached_in-none peers demand = λ f d h. none_in_none h.consumer.0 h.consumer.1

among_push_cases : (xs : List DevId) (y : DevId) (device : ℕ) → IsAmong (xs ++ y ∷ []) device → IsAmong xs device ⊎ (y.0 ≡ device)
among_push_cases xs y device (d, member, is) =
    elim (Contains-push_cases xs y d member) [ inl before ↦ inl (d, before, is) | inr last ↦ inr (ap (λ (e : DevId). e.0) last ∙ is) ]

pub unreached_in-more : (peers : Peers) (demand : Demand) (xs : List DevId) (i : ℕ) (x : DevId) (a b o : Option (FrameId × DevId)) → i < length xs
    → get_or xs i x ≡ x → IsFirstPlace (IsUnreachedIn peers demand (take i xs)) a → IsFirstPlace (IsUnreachedOne peers demand x) b → o ≡ first_of a b
    → IsFirstPlace (IsUnreachedIn peers demand (take (i + 1) xs)) o
unreached_in-more peers demand xs i x a b o below at p q is =
    let more : take (i + 1) xs ≡ take i xs ++ x ∷ [] = take_more xs i x below ∙ ap (λ y. take i xs ++ y ∷ []) at in
    subst (λ (r : Option (FrameId × DevId)). IsFirstPlace (IsUnreachedIn peers demand (take (i + 1) xs)) r) (sym is)
    (subst (λ (ys : List DevId). IsFirstPlace (IsUnreachedIn peers demand ys) (first_of a b)) (sym more)
    (first_of_both (IsUnreachedIn peers demand (take i xs)) (IsUnreachedOne peers demand x) (IsUnreachedIn peers demand (take i xs ++ x ∷ []))
    (λ f d h.
    record {
      frame_is = h.frame_is;
      consumer = (h.consumer.0, Contains-append_left (take i xs) (x ∷ []) h.consumer.0 h.consumer.1, h.consumer.2);
      apart = h.apart;
    })
    (λ f d h. record { frame_is = h.0; consumer = (x, Contains-push (take i xs) x, h.1); apart = h.2 })
    (λ f d h. elim (among_push_cases (take i xs) x d h.consumer) [
      | inl before ↦ inl (record { frame_is = h.frame_is; consumer = before; apart = h.apart })
      | inr last ↦ inr (h.frame_is, last, h.apart)
    ]) a b p q))

-- of all of them
pub unreached_in-all : (peers : Peers) (demand : Demand) (xs : List DevId) (o : Option (FrameId × DevId)) → xs ≡ demand.consumers
    → IsFirstPlace (IsUnreachedIn peers demand xs) o → IsFirstPlace (IsUnreachedOf peers demand) o
unreached_in-all peers demand xs None same p =
    λ f d h. p f d (record { frame_is = h.frame_is; consumer = subst (λ (ys : List DevId). IsAmong ys d) (sym same) h.consumer; apart = h.apart })
unreached_in-all peers demand xs (Some place) same p = (
  record { frame_is = p.0.frame_is; consumer = subst (λ (ys : List DevId). IsAmong ys place.1.0) same p.0.consumer; apart = p.0.apart },
  λ f d h. p.1 f d (record { frame_is = h.frame_is; consumer = subst (λ (ys : List DevId). IsAmong ys d) (sym same) h.consumer; apart = h.apart }),
)

pub unreached-none : (peers : Peers) → IsFirstPlace (IsUnreached peers []) None
unreached-none peers = λ f d h. none_in_none h.0 h.1

pub unreached-more : (peers : Peers) (xs : List Demand) (i : ℕ) (x : Demand) (a b o : Option (FrameId × DevId)) → i < length xs
    → get_or xs i x ≡ x → IsFirstPlace (IsUnreached peers (take i xs)) a → IsFirstPlace (IsUnreachedOf peers x) b → o ≡ first_of a b
    → IsFirstPlace (IsUnreached peers (take (i + 1) xs)) o
unreached-more peers xs i x a b o below at p q is =
    let more : take (i + 1) xs ≡ take i xs ++ x ∷ [] = take_more xs i x below ∙ ap (λ y. take i xs ++ y ∷ []) at in
    subst (λ (r : Option (FrameId × DevId)). IsFirstPlace (IsUnreached peers (take (i + 1) xs)) r) (sym is)
    (subst (λ (ys : List Demand). IsFirstPlace (IsUnreached peers ys) (first_of a b)) (sym more)
    (first_of_both (IsUnreached peers (take i xs)) (IsUnreachedOf peers x) (IsUnreached peers (take i xs ++ x ∷ []))
    (λ f d h. (h.0, Contains-append_left (take i xs) (x ∷ []) h.0 h.1, h.2))
    (λ f d h. (x, Contains-push (take i xs) x, h))
    (λ f d h. elim (Contains-push_cases (take i xs) x h.0 h.1) [
      | inl before ↦ inl (h.0, before, h.2)
      | inr last ↦ inr (subst (λ (e : Demand). IsUnreachedOf peers e f d) (sym last) h.2)
    ]) a b p q))

-- an item at a place
pub item_again : {A : Type 0} (xs : List A) (i : ℕ) (d : A) → i < length xs → get_or xs i (get_or xs i d) ≡ get_or xs i d
item_again xs i d below = get_or_default xs i (get_or xs i d) d below

pub consumer_within : (devices : ℕ) (demand : Demand) (xs : List DevId) (i : ℕ) (d : DevId) → IsDemandWithin devices demand → xs ≡ demand.consumers
    → i < length xs → (get_or xs i d).0 < devices
consumer_within devices demand xs i d within same below =
    within (get_or xs i d) (subst (λ (ys : List DevId). Contains ys (get_or xs i d)) same (Contains-get_or xs i d below))

pub demand_within : (devices : ℕ) (xs : List Demand) (i : ℕ) (x : Demand) → AreDemandsWithin devices xs → i < length xs → x ≡ get_or xs i x
    → IsDemandWithin devices x
demand_within devices xs i x within below is = within x (i, below, sym is)

pub unreached_in-done : (peers : Peers) (demand : Demand) (xs : List DevId) (i : ℕ) (o : Option (FrameId × DevId)) → xs ≡ demand.consumers → length xs ≤ i
    → IsFirstPlace (IsUnreachedIn peers demand (take i xs)) o → IsFirstPlace (IsUnreachedOf peers demand) o
unreached_in-done peers demand xs i o same past p =
    unreached_in-all peers demand xs o same
    (subst (λ (ys : List DevId). IsFirstPlace (IsUnreachedIn peers demand ys) o) (take_all i xs past) p)

pub unreached-done : (peers : Peers) (xs : List Demand) (i : ℕ) (o : Option (FrameId × DevId)) → length xs ≤ i
    → IsFirstPlace (IsUnreached peers (take i xs)) o → IsFirstPlace (IsUnreached peers xs) o
unreached-done peers xs i o past p = subst (λ (ys : List Demand). IsFirstPlace (IsUnreached peers ys) o) (take_all i xs past) p
