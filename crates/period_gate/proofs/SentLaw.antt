-- The calls of `next` in a cycle give the list that the four conditions say.
use Rattle.std.proofs.Common.{◌≡◌, ℕ, zero, suc, ◌+◌, ◌≤◌, ◌<◌, max, List, length, drop, length-drop, [], ◌∷◌, ◌++◌, slice_get, Option, Some, None, option_and_then, ◌⊎◌, inl, inr, refl, sym, ◌∙◌, ap, subst, arith}
use Rattle.std.proofs.lemmas.Bool.Decides.{nat_tests}
use Rattle.irt_base.specs.Cycle.{parcel_time}
use Rattle.irt_base.specs.declared.plants.Class.{Class}
use Rattle.irt_base.specs.declared.plants.Class.TheVariants.{Orange, Green}
use Rattle.period_gate.specs.declared.parcels.Parcel.{Parcel}
use Rattle.period_gate.specs.declared.parcels.Sent.{Sent}
use Rattle.period_gate.specs.Gate.{Waiting, queue_of, begin_of, without_head, sent_by, head_sent, first_of_two, next_sent, left_after}
use Rattle.period_gate.specs.SentList.{left_of, end_from, WouldEnd, GivesWay, IsSentNext, IsSentFrom, IsSentList, Gives, first_and_more, sent_in, sent_of}

-- what the head of a class, if there is one, is sent as
pub record IsSentHead (kind : Class) (start limit : ℕ) (head : Option Parcel) (one : Sent) : Type 0 where
  pub kind_is : one.«class» ≡ kind
  pub head_is : head ≡ Some one.parcel
  pub start_is : one.start ≡ start
  pub end_is : one.end ≡ one.start + parcel_time one.parcel.length
  pub in_time : one.end ≤ limit

sent_by-is : (kind : Class) (start limit : ℕ) (p : Parcel) (one : Sent) → sent_by kind start limit p ≡ Some one →
    IsSentHead kind start limit (Some p) one
sent_by-is kind start limit p one e = grind (arith, nat_tests)

sent_by-makes : (kind : Class) (start limit : ℕ) (p : Parcel) (one : Sent) → IsSentHead kind start limit (Some p) one →
    sent_by kind start limit p ≡ Some one
sent_by-makes kind start limit p one h = grind (arith, nat_tests)

sent_by-none : (kind : Class) (start limit : ℕ) (p : Parcel) → sent_by kind start limit p ≡ None → ¬ (start + parcel_time p.length ≤ limit)
sent_by-none kind start limit p e h = grind (arith, nat_tests)

sent_by-late : (kind : Class) (start limit : ℕ) (p : Parcel) → ¬ (start + parcel_time p.length ≤ limit) → sent_by kind start limit p ≡ None
sent_by-late kind start limit p h = grind (arith, nat_tests)

head-is : (kind : Class) (start limit : ℕ) (o : Option Parcel) (one : Sent) → option_and_then (sent_by kind start limit) o ≡ Some one →
    IsSentHead kind start limit o one
head-is kind start limit None one e = absurd (cc)
head-is kind start limit (Some p) one e = sent_by-is kind start limit p one e

head-makes : (kind : Class) (start limit : ℕ) (o : Option Parcel) (one : Sent) → IsSentHead kind start limit o one →
    option_and_then (sent_by kind start limit) o ≡ Some one
head-makes kind start limit None one h = let e = h.head_is in absurd (cc)
head-makes kind start limit (Some p) one h = sent_by-makes kind start limit p one h

head-none : (kind : Class) (start limit : ℕ) (o : Option Parcel) → option_and_then (sent_by kind start limit) o ≡ None →
    (p : Parcel) → o ≡ Some p → ¬ (start + parcel_time p.length ≤ limit)
head-none kind start limit None e p is = absurd (cc)
head-none kind start limit (Some q) e p is =
    let same : q ≡ p = cc in
    let P : Parcel → Type 0 = λ p. ¬ (start + parcel_time p.length ≤ limit) in subst P same (sent_by-none kind start limit q e)

head-late : (kind : Class) (start limit : ℕ) (o : Option Parcel) → ((p : Parcel) → o ≡ Some p → ¬ (start + parcel_time p.length ≤ limit)) →
    option_and_then (sent_by kind start limit) o ≡ None
head-late kind start limit None late = refl
head-late kind start limit (Some q) late = sent_by-late kind start limit q (late q refl)

two-is : (a b : Option Sent) (one : Sent) → first_of_two a b ≡ Some one → (a ≡ Some one) ⊎ ((a ≡ None) × (b ≡ Some one))
two-is None b one e = inr (refl, e)
two-is (Some x) b one e = inl e

two-none : (a b : Option Sent) → first_of_two a b ≡ None → (a ≡ None) × (b ≡ None)
two-none None b e = (refl, e)
two-none (Some x) b e = absurd (cc)

-- the head of a class, where the class gives way to no other, may be sent next
as_next : (kind : Class) (w : Waiting) (time : ℕ) (one : Sent) →
    IsSentHead kind (max time (begin_of kind w.period)) w.limit (slice_get (queue_of kind w) 0) one → GivesWay kind w time → IsSentNext w time one
as_next kind w time one h gives =
    let Head : Class → Type 0 = λ k. IsSentHead k (max time (begin_of k w.period)) w.limit (slice_get (queue_of k w) 0) one in
    let Way : Class → Type 0 = λ k. GivesWay k w time in
    let own = subst Head (sym h.kind_is) h in
    record { head = own.head_is; start = own.start_is; end = own.end_is; in_time = own.in_time; gives_way = subst Way (sym h.kind_is) gives }

pub next-is : (w : Waiting) (time : ℕ) (one : Sent) → next_sent w time ≡ Some one → IsSentNext w time one
next-is w time one e =
    elim (two-is (head_sent Orange w time) (head_sent Green w time) one e) [
      | inl o ↦ as_next Orange w time one (head-is Orange _ _ _ one o) tt
      | inr g ↦ as_next Green w time one (head-is Green _ _ _ one g.1) (λ v. head-none Orange _ _ _ g.0 v.0 v.1 v.2)
    ]

-- what may be sent next is the head of its class
as_head : (kind : Class) (w : Waiting) (time : ℕ) (one : Sent) → one.«class» ≡ kind → IsSentNext w time one →
    IsSentHead kind (max time (begin_of kind w.period)) w.limit (slice_get (queue_of kind w) 0) one
as_head kind w time one is h =
    let Head : Class → Type 0 = λ k. IsSentHead k (max time (begin_of k w.period)) w.limit (slice_get (queue_of k w) 0) one in
    subst Head is (record { kind_is = refl; head_is = h.head; start_is = h.start; end_is = h.end; in_time = h.in_time })

next-makes_at : (kind : Class) (w : Waiting) (time : ℕ) (one : Sent) → one.«class» ≡ kind → IsSentNext w time one → next_sent w time ≡ Some one
next-makes_at Orange w time one is h =
    ap (λ o. first_of_two o (head_sent Green w time)) (head-makes Orange _ _ _ one (as_head Orange w time one is h))
next-makes_at Green w time one is h =
    let Way : Class → Type 0 = λ k. GivesWay k w time in
    let way : ¬ WouldEnd Orange w time = subst Way is h.gives_way in
    ap (λ o. first_of_two o (head_sent Green w time)) (head-late Orange _ _ _ (λ p e fits. way (p, e, fits)))
    ∙ head-makes Green _ _ _ one (as_head Green w time one is h)

next-makes : (w : Waiting) (time : ℕ) (one : Sent) → IsSentNext w time one → next_sent w time ≡ Some one
next-makes w time one h = next-makes_at one.«class» w time one refl h

none-is : (w : Waiting) (time : ℕ) → next_sent w time ≡ None → (kind : Class) → ¬ WouldEnd kind w time
none-is w time e Orange v = head-none Orange _ _ _ (two-none (head_sent Orange w time) (head_sent Green w time) e).0 v.0 v.1 v.2
none-is w time e Green v = head-none Green _ _ _ (two-none (head_sent Orange w time) (head_sent Green w time) e).1 v.0 v.1 v.2

none-makes : (w : Waiting) (time : ℕ) → ((kind : Class) → ¬ WouldEnd kind w time) → next_sent w time ≡ None
none-makes w time late =
    ap (λ o. first_of_two o (head_sent Green w time)) (head-late Orange _ _ _ (λ p e fits. late Orange (p, e, fits)))
    ∙ head-late Green _ _ _ (λ p e fits. late Green (p, e, fits))

each_more : (w : Waiting) (time : ℕ) (one : Sent) (more : List Sent) → IsSentNext w time one →
    IsSentFrom (without_head one.«class» w) one.end more →
    (before : List Sent) (x : Sent) (after : List Sent) → one ∷ more ≡ before ++ x ∷ after → IsSentNext (left_of w before) (end_from time before) x
each_more w time one more now later [] x after e =
    let same : one ≡ x = cc in
    let P : Sent → Type 0 = λ y. IsSentNext w time y in subst P same now
each_more w time one more now later (b ∷ bs) x after e =
    let same : one ≡ b = cc in
    let rest : more ≡ bs ++ x ∷ after = cc in
    let P : Sent → Type 0 = λ y. IsSentNext (left_of (without_head y.«class» w) bs) (end_from y.end bs) x in subst P same (later.each bs x after rest)

no_split : (before : List Sent) (x : Sent) (after : List Sent) → [] ≡ before ++ x ∷ after → ⊥
no_split [] x after e = (cc)
no_split (b ∷ bs) x after e = (cc)

pub gives-is : (sent : List Sent) (w : Waiting) (time : ℕ) (last : Waiting) → Gives w time sent last → IsSentFrom w time sent
gives-is [] w time last h =
    record { each = λ before x after e. absurd (no_split before x after e); ended = none-is w time h.0 }
gives-is (one ∷ more) w time last h =
    let later = gives-is more (without_head one.«class» w) one.end last h.1 in
    record { each = each_more w time one more (next-is w time one h.0) later; ended = later.ended }

pub gives-left : (sent : List Sent) (w : Waiting) (time : ℕ) (last : Waiting) → Gives w time sent last → last ≡ left_of w sent
gives-left [] w time last h = h.1
gives-left (one ∷ more) w time last h = gives-left more (without_head one.«class» w) one.end last h.1

pub is-gives : (sent : List Sent) (w : Waiting) (time : ℕ) → IsSentFrom w time sent → Gives w time sent (left_of w sent)
is-gives [] w time h = (none-makes w time h.ended, refl)
is-gives (one ∷ more) w time h = (
  next-makes w time one (h.each [] one more refl),
  is-gives more (without_head one.«class» w) one.end
      (record { each = λ before x after e. h.each (one ∷ before) x after (ap (λ l. one ∷ l) e); ended = h.ended }),
)

-- calls give one list alone
gives-same : (sent other : List Sent) (w : Waiting) (time : ℕ) (last end : Waiting) → Gives w time sent last → Gives w time other end → sent ≡ other
gives-same [] [] w time last end h k = refl
gives-same [] (y ∷ other) w time last end h k = let e = sym h.0 ∙ k.0 in absurd (cc)
gives-same (x ∷ sent) [] w time last end h k = let e = sym h.0 ∙ k.0 in absurd (cc)
gives-same (x ∷ sent) (y ∷ other) w time last end h k =
    let both : Some x ≡ Some y = sym h.0 ∙ k.0 in
    let same : x ≡ y = cc in
    let P : Sent → Type 0 = λ z. Gives (left_after (Some z) w) z.end other end in
    let rest : sent ≡ other = gives-same sent other (left_after (Some x) w) x.end last end h.1 (subst P (sym same) k.1) in cc

pub sent_list-only : (w : Waiting) (sent other : List Sent) → IsSentList w sent → IsSentList w other → sent ≡ other
sent_list-only w sent other h k = gives-same sent other w 0 (left_of w sent) (left_of w other) (is-gives sent w 0 h) (is-gives other w 0 k)

drop_first : (queue : List Parcel) (p : Parcel) → slice_get queue 0 ≡ Some p → length (drop 1 queue) < length queue
drop_first [] p e = absurd (cc)
drop_first (x ∷ queue) p e = omega (arith, length-drop 1 (x ∷ queue))

-- one parcel fewer waits
fewer : (kind : Class) (w : Waiting) (p : Parcel) → slice_get (queue_of kind w) 0 ≡ Some p →
    length (without_head kind w).orange + length (without_head kind w).green < length w.orange + length w.green
fewer Orange w p e = omega (arith, drop_first w.orange p e)
fewer Green w p e = omega (arith, drop_first w.green p e)

nothing_more : (w : Waiting) (time : ℕ) (o : Option Sent) → next_sent w time ≡ o → length w.orange + length w.green ≤ 0 → o ≡ None
nothing_more w time None e few = refl
nothing_more w time (Some one) e few =
    let less = fewer one.«class» w one.parcel (next-is w time one e).head in absurd (omega arith)

-- so many calls give the whole list
gives_in : (calls : ℕ) (w : Waiting) (time : ℕ) → length w.orange + length w.green ≤ calls →
    Gives w time (sent_in calls w time) (left_of w (sent_in calls w time))
gives_in zero w time few = (nothing_more w time (next_sent w time) refl few, refl)
gives_in (suc calls) w time few =
    let More : Sent → List Sent = λ one. sent_in calls (without_head one.«class» w) one.end in
    let P : Option Sent → Type 0 = λ o. Gives w time (first_and_more o More) (left_of w (first_and_more o More)) in
    let step : (o : Option Sent) → next_sent w time ≡ o → P o =
    λ o. elim o as (λ o. next_sent w time ≡ o → P o) [
      | None ↦ λ e. (e, refl)
      | Some one ↦ λ e. let less = fewer one.«class» w one.parcel (next-is w time one e).head in
          (e, gives_in calls (without_head one.«class» w) one.end (omega arith))
    ] in step (next_sent w time) refl

pub sent_of-is : (w : Waiting) → IsSentList w (sent_of w)
sent_of-is w = gives-is (sent_of w) w 0 (left_of w (sent_of w)) (gives_in (length w.orange + length w.green) w 0 (omega arith))

rest_gives : (done rest : List Sent) (w : Waiting) (time : ℕ) (last : Waiting) → Gives w time (done ++ rest) last →
    next_sent (left_of w done) (end_from time done) ≡ slice_get rest 0
rest_gives [] [] w time last h = h.0
rest_gives [] (one ∷ more) w time last h = h.0
rest_gives (one ∷ done) rest w time last h = rest_gives done rest (without_head one.«class» w) one.end last h.1

pub next-rest : (w : Waiting) (done rest : List Sent) → IsSentList w (done ++ rest) → next_sent (left_of w done) (end_from 0 done) ≡ slice_get rest 0
next-rest w done rest h = rest_gives done rest w 0 (left_of w (done ++ rest)) (is-gives (done ++ rest) w 0 h)
