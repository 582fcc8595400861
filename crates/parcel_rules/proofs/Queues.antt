-- A port's gate before and after a cycle: which parcels it has sent, and which still wait.
use Rattle.std.proofs.Common.{◌≡◌, ◌⊎◌, ℕ, ◌+◌, Bool, true, false, List, [], ◌∷◌, ◌++◌, refl, sym, ◌∙◌, ap, subst, arith, inl, inr, All}
use Rattle.std.specs.Prelude.{if◌then◌else◌}
use Rattle.std.specs.List.{sum_by}
use Rattle.std.proofs.lemmas.List.Elements.{All-nil, All-cons, All-head, All-tail}
use Rattle.std.proofs.lemmas.List.Sums.{sum_by-cons}
use Rattle.irt_base.specs.declared.blocks.Bundle.{Bundle}
use Rattle.irt_base.specs.declared.blocks.Period.{Period}
use Rattle.irt_base.specs.declared.plants.Class.{Class}
use Rattle.irt_base.specs.declared.plants.Class.TheVariants.{Orange, Green}
use Rattle.period_gate.specs.declared.parcels.Parcel.{Parcel}
use Rattle.period_gate.specs.declared.parcels.Sent.{Sent}
use Rattle.period_gate.specs.Gate.{Waiting, queue_of, with_last, without_head}
use Rattle.period_gate.specs.SentList.{left_of, sent_of, is_same_class, sent_parcels}
use Rattle.irt_switch.specs.Begin.{begun_gate}

-- ---- the period of a cycle changes no queue

pub same_queue : (kind : Class) (b : Bundle) (tx : Period) (w : Waiting) → queue_of kind (begun_gate b tx w) ≡ queue_of kind w
same_queue Orange b tx w = refl
same_queue Green b tx w = refl

head_begun : (kind : Class) (b : Bundle) (tx : Period) (w : Waiting) → without_head kind (begun_gate b tx w) ≡ begun_gate b tx (without_head kind w)
head_begun Orange b tx w = refl
head_begun Green b tx w = refl

pub left_begun : (sent : List Sent) (b : Bundle) (tx : Period) (w : Waiting) → left_of (begun_gate b tx w) sent ≡ begun_gate b tx (left_of w sent)
left_begun [] b tx w = refl
left_begun (one ∷ more) b tx w = ap (λ g. left_of g more) (head_begun one.«class» b tx w) ∙ left_begun more b tx (without_head one.«class» w)

pub last_begun : (kind : Class) (parcel : Parcel) (b : Bundle) (tx : Period) (w : Waiting) →
    with_last kind parcel (begun_gate b tx w) ≡ begun_gate b tx (with_last kind parcel w)
last_begun Orange parcel b tx w = refl
last_begun Green parcel b tx w = refl

-- of each class a front of those that wait is sent
abbrev pub SendFronts : Type 0
SendFronts = (gate : Waiting) (kind : Class) → queue_of kind gate ≡ sent_parcels kind (sent_of gate) ++ queue_of kind (left_of gate (sent_of gate))

pub split_gate : SendFronts → (kind : Class) (b : Bundle) (tx : Period) (w : Waiting) →
    queue_of kind w ≡ sent_parcels kind (sent_of (begun_gate b tx w)) ++ queue_of kind (left_of w (sent_of (begun_gate b tx w)))
split_gate fronts kind b tx w =
    let sent = sent_of (begun_gate b tx w) in
    sym (same_queue kind b tx w) ∙ fronts (begun_gate b tx w) kind
    ∙ ap (λ q. sent_parcels kind sent ++ q) (ap (queue_of kind) (left_begun sent b tx w) ∙ same_queue kind b tx (left_of w sent))

-- ---- both classes

either_class : (kind : Class) → (kind ≡ Orange) ⊎ (kind ≡ Green)
either_class Orange = inl refl
either_class Green = inr refl

parcels_if : (kind : Class) (one : Sent) (more : List Sent) (b : Bool) → is_same_class kind one.«class» ≡ b →
    sent_parcels kind (one ∷ more) ≡ (if b then one.parcel ∷ sent_parcels kind more else sent_parcels kind more)
parcels_if kind one more true is = rw is refl
parcels_if kind one more false is = rw is refl

-- what is sent of a class, after one parcel more
record AreSentOf (one : Sent) (more : List Sent) (orange green : List Parcel) : Type 0 where
  is_orange : sent_parcels Orange (one ∷ more) ≡ orange
  is_green : sent_parcels Green (one ∷ more) ≡ green

sent_of_classes : (one : Sent) (more : List Sent) →
    AreSentOf one more (one.parcel ∷ sent_parcels Orange more) (sent_parcels Green more) ⊎ AreSentOf one more (sent_parcels Orange more) (one.parcel ∷ sent_parcels Green more)
sent_of_classes one more = elim (either_class one.«class») [
  | inl is ↦ inl (record {
    is_orange = parcels_if Orange one more true (ap (is_same_class Orange) is);
    is_green = parcels_if Green one more false (ap (is_same_class Green) is);
  })
  | inr is ↦ inr (record {
    is_orange = parcels_if Orange one more false (ap (is_same_class Orange) is);
    is_green = parcels_if Green one more true (ap (is_same_class Green) is);
  })
]

pub sum_classes : (weight : Parcel → ℕ) (sent : List Sent) →
    sum_by weight (sent_parcels Orange sent) + sum_by weight (sent_parcels Green sent) ≡ sum_by (λ (one : Sent). weight one.parcel) sent
sum_classes weight [] = refl
sum_classes weight (one ∷ more) =
    let rest = sum_classes weight more in
    let whole = sum_by-cons (λ (s : Sent). weight s.parcel) one more in
    elim (sent_of_classes one more) [
      | inl is ↦
          let orange = ap (sum_by weight) is.is_orange in
          let green = ap (sum_by weight) is.is_green in
          omega (arith, sum_by-cons weight one.parcel (sent_parcels Orange more))
      | inr is ↦
          let orange = ap (sum_by weight) is.is_orange in
          let green = ap (sum_by weight) is.is_green in
          omega (arith, sum_by-cons weight one.parcel (sent_parcels Green more))
    ]

pub all_classes : (P : Parcel → Type 0) (sent : List Sent) → All P (sent_parcels Orange sent) → All P (sent_parcels Green sent) →
    All (λ (one : Sent). P one.parcel) sent
all_classes P [] orange green = All-nil (λ (one : Sent). P one.parcel)
all_classes P (one ∷ more) orange green = elim (sent_of_classes one more) [
  | inl is ↦
      let first = subst (All P) is.is_orange orange in
      All-cons (λ (s : Sent). P s.parcel) one more (All-head P one.parcel (sent_parcels Orange more) first)
      (all_classes P more (All-tail P one.parcel (sent_parcels Orange more) first) (subst (All P) is.is_green green))
  | inr is ↦
      let first = subst (All P) is.is_green green in
      All-cons (λ (s : Sent). P s.parcel) one more (All-head P one.parcel (sent_parcels Green more) first)
      (all_classes P more (subst (All P) is.is_orange orange) (All-tail P one.parcel (sent_parcels Green more) first))
]

-- ---- what holds of the parts of a list

pub All-left : {X : Type 0} (P : X → Type 0) (xs ys : List X) → All P (xs ++ ys) → All P xs
All-left P [] ys all = All-nil P
All-left P (x ∷ xs) ys all = All-cons P x xs (All-head P x (xs ++ ys) all) (All-left P xs ys (All-tail P x (xs ++ ys) all))

pub All-right : {X : Type 0} (P : X → Type 0) (xs ys : List X) → All P (xs ++ ys) → All P ys
All-right P [] ys all = all
All-right P (x ∷ xs) ys all = All-right P xs ys (All-tail P x (xs ++ ys) all)
