-- The sendings of stops, one by one.
use Rattle.std.proofs.Common.{◌≡◌, ◌≢◌, ◌+◌, ◌^◌, ◌<◌, ◌⊎◌, ◌++◌, ◌∷◌, [], ℕ, inl, inr, List, Some, get_or, refl, sym, ◌∙◌, ap, subst, arith}
use Rattle.std.specs.Prelude.{slice_get, Contains}
use Rattle.std.proofs.lemmas.Bool.{cases_lt}
use Rattle.std.proofs.lemmas.List.Elements.{Contains-get_or, Contains-append_left, Contains-push, Contains-push_cases}
use Rattle.std.proofs.lemmas.List.Quantifiers.{all_pairs_push}
use Rattle.std.proofs.lemmas.Option.{same_Some}
use Rattle.placement.specs.declared.layout.Sending.{Sending}
use Rattle.plan_rules.specs.Way.{Leaves}
use Rattle.frame_ways.specs.declared.stops.Stop.{Stop}
use Rattle.frame_ways.specs.Layout.{sending_of, IsSendingBefore, AreSendingsTo}
use Rattle.frame_ways.specs.Stops.{Precedes, StopsDiffer}
use Rattle.frame_ways.proofs.Bits.{leaves_low}
use Rattle.frame_ways.proofs.Lists.{pair_at}

-- one port more
pub port_more : (n by at port : ℕ) → Precedes n by at (port + 1) → Precedes n by at port ⊎ ((n ≡ at) × (by ≡ port))
port_more n by at port (inl before) = inl (inl before)
port_more n by at port (inr (here, low)) = elim (cases_lt by port) [ inl less ↦ inl (inr (here, less)) | inr high ↦ inr (here, omega arith) ]

pub before_more : (n by at port : ℕ) → Precedes n by at port → Precedes n by at (port + 1)
before_more n by at port (inl before) = inl before
before_more n by at port (inr (here, low)) = inr (here, omega arith)

abbrev Differ : Sending → Sending → Type 0
Differ s t = (s.device.0 ≢ t.device.0) ⊎ (s.port.0 ≢ t.port.0)

widened : (stops : List Stop) (at port next by : ℕ) (x : Sending) → ((n m : ℕ) → Precedes n m at port → Precedes n m next by) →
    IsSendingBefore stops at port x → IsSendingBefore stops next by x
widened stops at port next by x wider is =
    record { n = is.n; by = is.by; s = is.s; there = is.there; before = wider is.n is.by is.before; leaves = is.leaves; is = is.is }

pub none_sent : (stops : List Stop) → AreSendingsTo stops 0 0 []
none_sent stops = record {
  only = λ x has. absurd (omega (arith, has.1));
  all = λ n by s there before leaves. elim before [ inl less ↦ absurd (omega (arith, less)) | inr here ↦ absurd (omega (arith, here.1)) ];
  apart = λ i j d less within. absurd (omega (arith, within));
}

module _ (stops : List Stop) (at port : ℕ) (s : Stop) (sendings : List Sending) (there : slice_get stops at ≡ Some s) (are : AreSendingsTo stops at port sendings) where
  pub sent_more : StopsDiffer stops → Leaves s.entry port → AreSendingsTo stops at (port + 1) (sendings ++ sending_of s port ∷ [])
  sent_more apart leaves = record {
    only = λ x has. elim (Contains-push_cases sendings (sending_of s port) x has) [
      | inl before ↦ widened stops at port at (port + 1) x (λ n m. before_more n m at port) (are.only x before)
      | inr same ↦ record { n = at; by = port; s = s; there = there; before = inr (refl, omega arith); leaves = leaves; is = sym same }
    ];
    all = λ n by t stands before out. elim (port_more n by at port before) [
      | inl old ↦ Contains-append_left sendings (sending_of s port ∷ []) (sending_of t by) (are.all n by t stands old out)
      | inr now ↦
          let same : s ≡ t = same_Some s t (sym there ∙ ap (slice_get stops) (sym now.0) ∙ stands) in
          subst (λ (x : Sending). Contains (sendings ++ sending_of s port ∷ []) x) (λ i. sending_of (same i) (sym now.1 i)) (Contains-push sendings (sending_of s port))
    ];
    apart = all_pairs_push Differ sendings (sending_of s port) are.apart (λ k d within.
        let old = are.only (get_or sendings k d) (Contains-get_or sendings k d within) in
        subst (λ (x : Sending). Differ x (sending_of s port)) (sym old.is) (elim old.before [
          | inl less ↦ inl (pair_at (λ (a b : Stop). a.device.0 ≢ b.device.0) stops old.n at old.s s apart old.there there less)
          | inr here ↦ inr (λ same. absurd (omega (arith, here.1, same)))
        ]));
  }

  pub sent_skipped : ¬ Leaves s.entry port → AreSendingsTo stops at (port + 1) sendings
  sent_skipped stays = record {
    only = λ x has. widened stops at port at (port + 1) x (λ n m. before_more n m at port) (are.only x has);
    all = λ n by t stands before out. elim (port_more n by at port before) [
      | inl old ↦ are.all n by t stands old out
      | inr now ↦
          let same : t ≡ s = same_Some t s (sym stands ∙ ap (slice_get stops) now.0 ∙ there) in
          absurd (stays (subst (λ (x : Stop). Leaves x.entry port) same (subst (Leaves t.entry) now.1 out)))
    ];
    apart = are.apart;
  }

  pub sent_all : port ≡ 8 → s.entry.tx < 2 ^ 8 → AreSendingsTo stops (at + 1) 0 sendings
  sent_all all small = record {
    only = λ x has. widened stops at port (at + 1) 0 x (λ n m. next n m) (are.only x has);
    all = λ n by t stands before out. elim (cases_lt n at) [
      | inl less ↦ are.all n by t stands (inl less) out
      | inr more ↦
          let here : n ≡ at = elim before [ inl less ↦ omega (arith, less) | inr same ↦ absurd (omega (arith, same.1)) ] in
          let same : t ≡ s = same_Some t s (sym stands ∙ ap (slice_get stops) here ∙ there) in
          let low = leaves_low s.entry by small (subst (λ (x : Stop). Leaves x.entry by) same out) in
          are.all n by t stands (inr (here, omega (arith, low))) out
    ];
    apart = are.apart;
  }
    where
      next : (n m : ℕ) → Precedes n m at port → Precedes n m (at + 1) 0
      next n m (inl less) = inl (omega arith)
      next n m (inr (here, low)) = inl (omega arith)
