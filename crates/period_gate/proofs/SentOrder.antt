-- The sent list of a cycle in its order: times, and which parcels.
use Rattle.std.proofs.Common.{◌≡◌, ℕ, ◌≤◌, Bool, true, false, if◌then◌else◌, List, drop, [], ◌∷◌, ◌++◌, slice_get, Some, refl, sym, ◌∙◌, ap, subst, arith, All, AllPairs}
use Rattle.std.proofs.lemmas.List.Elements.{All-nil, All-cons, All-weaker}
use Rattle.std.proofs.lemmas.List.Kept.{AllPairs-cons}
use Rattle.irt_base.specs.declared.blocks.Period.{Period}
use Rattle.irt_base.specs.declared.plants.Class.{Class}
use Rattle.irt_base.specs.declared.plants.Class.TheVariants.{Orange, Green}
use Rattle.period_gate.specs.declared.parcels.Parcel.{Parcel}
use Rattle.period_gate.specs.declared.parcels.Sent.{Sent}
use Rattle.period_gate.specs.Gate.{Waiting, queue_of, without_head}
use Rattle.period_gate.specs.SentList.{left_of, IsSentNext, IsSentList, Gives, IsTimed, AreInOrder, is_same_class, sent_parcels}
use Rattle.period_gate.proofs.SentLaw.{next-is, is-gives}

same_period : (kind : Class) (w : Waiting) → (without_head kind w).period ≡ w.period
same_period Orange w = refl
same_period Green w = refl

same_limit : (kind : Class) (w : Waiting) → (without_head kind w).limit ≡ w.limit
same_limit Orange w = refl
same_limit Green w = refl

-- what is sent from a time on
record AreSentFrom (period : Period) (limit time : ℕ) (sent : List Sent) : Type 0 where
  each : All (IsTimed period limit) sent
  in_turn : AllPairs (λ (one later : Sent). one.end ≤ later.start) sent
  from : All (λ (one : Sent). time ≤ one.start) sent

timed : (w : Waiting) (time : ℕ) (one : Sent) → IsSentNext w time one → IsTimed w.period w.limit one × (time ≤ one.start)
timed w time one h =
    let start = h.start in
    let end = h.end in (record { opens = grind arith; rises = omega arith; closes = h.in_time }, grind arith)

order_from : (sent : List Sent) (w : Waiting) (time : ℕ) (last : Waiting) → Gives w time sent last → AreSentFrom w.period w.limit time sent
order_from [] w time last h = record {
  each = All-nil (IsTimed w.period w.limit);
  in_turn = λ i j d below lt. absurd (omega arith);
  from = All-nil (λ (one : Sent). time ≤ one.start);
}
order_from (one ∷ more) w time last h =
    let now = timed w time one (next-is w time one h.0) in
    let later = order_from more (without_head one.«class» w) one.end last h.1 in
    let AtPeriod : Period → Type 0 = λ p. All (IsTimed p (without_head one.«class» w).limit) more in
    let AtLimit : ℕ → Type 0 = λ n. All (IsTimed w.period n) more in
    record {
      each = All-cons (IsTimed w.period w.limit) one more now.0
          (subst AtLimit (same_limit one.«class» w) (subst AtPeriod (same_period one.«class» w) later.each));
      in_turn = AllPairs-cons (λ (one later : Sent). one.end ≤ later.start) one more later.from later.in_turn;
      from = All-cons (λ (one : Sent). time ≤ one.start) one more now.1
          (All-weaker (λ (x : Sent). one.end ≤ x.start) (λ (x : Sent). time ≤ x.start) (λ x after. let r = now.0.rises in let s = now.1 in omega arith) more later.from);
    }

pub in_order : (w : Waiting) (sent : List Sent) → IsSentList w sent → AreInOrder w sent
in_order w sent h =
    let all = order_from sent w 0 (left_of w sent) (is-gives sent w 0 h) in record { each = all.each; in_turn = all.in_turn }

with_head : (queue : List Parcel) (p : Parcel) → slice_get queue 0 ≡ Some p → queue ≡ p ∷ drop 1 queue
with_head [] p e = absurd (cc)
with_head (x ∷ queue) p e = ap (λ q. q ∷ queue) (cc)

class_test : (kind : Class) (one : Sent) (b : Bool) → is_same_class kind one.«class» ≡ b → (more : List Sent) →
    sent_parcels kind (one ∷ more) ≡ (if b then one.parcel ∷ sent_parcels kind more else sent_parcels kind more)
class_test kind one true is more = rw is refl
class_test kind one false is more = rw is refl

same_class : (kind own mine : Class) (b : Bool) → mine ≡ own → is_same_class kind own ≡ b → is_same_class kind mine ≡ b
same_class kind own mine b is e = ap (is_same_class kind) is ∙ e

-- a parcel that is sent was the first of its class, and of the other class nothing went
front_step : (kind own : Class) (w : Waiting) (one : Sent) (more : List Sent) (rest : List Parcel) → one.«class» ≡ own →
    slice_get (queue_of own w) 0 ≡ Some one.parcel → queue_of kind (without_head own w) ≡ sent_parcels kind more ++ rest →
    queue_of kind w ≡ sent_parcels kind (one ∷ more) ++ rest
front_step Orange Orange w one more rest is head later =
    with_head w.orange one.parcel head ∙ ap (λ q. one.parcel ∷ q) later
    ∙ sym (ap (λ q. q ++ rest) (class_test Orange one true (same_class Orange Orange one.«class» true is refl) more))
front_step Orange Green w one more rest is head later =
    later ∙ sym (ap (λ q. q ++ rest) (class_test Orange one false (same_class Orange Green one.«class» false is refl) more))
front_step Green Green w one more rest is head later =
    with_head w.green one.parcel head ∙ ap (λ q. one.parcel ∷ q) later
    ∙ sym (ap (λ q. q ++ rest) (class_test Green one true (same_class Green Green one.«class» true is refl) more))
front_step Green Orange w one more rest is head later =
    later ∙ sym (ap (λ q. q ++ rest) (class_test Green one false (same_class Green Orange one.«class» false is refl) more))

front_from : (sent : List Sent) (w : Waiting) (time : ℕ) (last : Waiting) (kind : Class) → Gives w time sent last →
    queue_of kind w ≡ sent_parcels kind sent ++ queue_of kind (left_of w sent)
front_from [] w time last kind h = refl
front_from (one ∷ more) w time last kind h =
    front_step kind one.«class» w one more (queue_of kind (left_of w (one ∷ more))) refl (next-is w time one h.0).head
    (front_from more (without_head one.«class» w) one.end last kind h.1)

pub front_of_class : (w : Waiting) (sent : List Sent) → IsSentList w sent → (kind : Class) →
    queue_of kind w ≡ sent_parcels kind sent ++ queue_of kind (left_of w sent)
front_of_class w sent h kind = front_from sent w 0 (left_of w sent) kind (is-gives sent w 0 h)
