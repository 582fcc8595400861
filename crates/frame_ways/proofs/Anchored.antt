-- The anchors of stops, one by one.
use Rattle.std.proofs.Common.{◌≡◌, ◌≢◌, ◌+◌, ◌<◌, ◌≤◌, ◌++◌, ◌∷◌, [], ℕ, inl, inr, List, Option, Some, None, length, get_or, refl, sym, ◌∙◌, ap, subst, arith}
use Rattle.std.specs.Prelude.{slice_get, IfSome}
use Rattle.std.proofs.lemmas.Bool.{cases_lt}
use Rattle.std.proofs.lemmas.List.{length_push}
use Rattle.std.proofs.lemmas.List.Quantifiers.{all_pairs_push}
use Rattle.std.proofs.lemmas.Option.{IfSome_then, same_Some, slice_get-get_or}
use Rattle.irt_base.specs.declared.numbers.DevId.{DevId}
use Rattle.irt_base.specs.declared.plants.Plant.{Plant}
use Rattle.placement.specs.Layouts.{StandsBefore}
use Rattle.placement.specs.declared.layout.After.{After}
use Rattle.placement.specs.declared.layout.Anchor.{Anchor}
use Rattle.frame_ways.specs.declared.frame_way.Arrival.{Arrival}
use Rattle.frame_ways.specs.declared.stops.Stop.{Stop}
use Rattle.frame_ways.specs.Layout.{IsUsableStop, HasAfter, IsAnchorBefore, AreAnchorsTo}
use Rattle.frame_ways.specs.Stops.{IsStarter, HasStarter, StopsDiffer}
use Rattle.frame_ways.proofs.Lists.{get_more, get_kept, get_last, pair_at}

abbrev Differ : Anchor → Anchor → Type 0
Differ a b = a.device.0 ≢ b.device.0

abbrev anchor_of : Stop → Option After → Anchor
anchor_of s after = record { device = s.device; after = after }

stands_kept : (anchors : List Anchor) (new : Anchor) (n more device : ℕ) → n ≤ more → StandsBefore anchors n device → StandsBefore (anchors ++ new ∷ []) more device
stands_kept anchors new n more device up (m, a, less, at, same) = (m, a, omega (arith, less), get_kept anchors new m a at, same)

module _ (plant : Plant) (stops : List Stop) where
  pub none_anchored : AreAnchorsTo plant stops 0 []
  none_anchored = record {
    only = λ k a at. absurd cc;
    all = λ n s there less starts. absurd (omega (arith, less));
    once = λ i j d less within. absurd (omega (arith, within));
  }

  module _ (i : ℕ) (s : Stop) (anchors : List Anchor) (there : slice_get stops i ≡ Some s) (are : AreAnchorsTo plant stops i anchors) where
    anchor_kept : (new : Anchor) (k : ℕ) (a : Anchor) → IsAnchorBefore plant stops i anchors k a → IsAnchorBefore plant stops (i + 1) (anchors ++ new ∷ []) k a
    anchor_kept new k a is = record {
      n = is.n;
      s = is.s;
      there = is.there;
      before = omega (arith, is.before);
      starts = is.starts;
      device = is.device;
      after = is.after;
      starter = IfSome_then a.after is.starter (λ (f : After) stands. stands_kept anchors new k k f.anchor.0 (omega arith) stands);
    }

    -- what an anchor waits for stands before it
    waits_for : IsUsableStop plant stops i s → (new : Anchor) (after : Option After) → HasAfter plant s after →
        IfSome after (λ (f : After). StandsBefore (anchors ++ new ∷ []) (length anchors) f.anchor.0)
    waits_for usable new None has = tt
    waits_for usable new (Some f) (x, d, comes, held, same, gap) =
        let starter = subst (λ (o : Option Arrival). IfSome o (λ (y : Arrival). HasStarter plant stops i y.anchor.0)) comes usable.starter in
        let stands = are.all starter.n starter.s starter.there starter.before starter.starts in
        subst (StandsBefore (anchors ++ new ∷ []) (length anchors)) (starter.here ∙ ap (λ (a : DevId). a.0) (sym same))
        (stands_kept anchors new (length anchors) (length anchors) starter.s.device.0 (omega arith) stands)

    pub anchor_more : StopsDiffer stops → IsUsableStop plant stops i s → IsStarter plant s.device.0 s.entry → (after : Option After) → HasAfter plant s after →
        AreAnchorsTo plant stops (i + 1) (anchors ++ anchor_of s after ∷ [])
    anchor_more apart usable starts after has =
        let new = anchor_of s after in
        let long : length anchors < length (anchors ++ new ∷ []) = omega (arith, length_push anchors new) in record {
          only = λ k a at. elim (get_more anchors new k a at) [
            | inl old ↦ anchor_kept new k a (are.only k a old)
            | inr last ↦ subst (λ n. IsAnchorBefore plant stops (i + 1) (anchors ++ new ∷ []) n a) (sym last.0)
                (subst (IsAnchorBefore plant stops (i + 1) (anchors ++ new ∷ []) (length anchors)) last.1 (record {
                  n = i;
                  s = s;
                  there = there;
                  before = omega arith;
                  starts = starts;
                  device = refl;
                  after = has;
                  starter = waits_for usable new after has;
                }))
          ];
          all = λ n t stands less starter. elim (cases_lt n i) [
            | inl before ↦ stands_kept anchors new (length anchors) (length (anchors ++ new ∷ [])) t.device.0 (omega arith) (are.all n t stands before starter)
            | inr more ↦
                let here : n ≡ i = omega (arith, less, more) in
                let same : s ≡ t = same_Some s t (sym there ∙ ap (slice_get stops) (sym here) ∙ stands) in
                (length anchors, new, long, get_last anchors new, ap (λ (u : Stop). u.device.0) same)
          ];
          once = all_pairs_push Differ anchors new are.once (λ k d within equal.
              let old = are.only k (get_or anchors k d) (slice_get-get_or anchors k d within) in
              pair_at (λ (a b : Stop). a.device.0 ≢ b.device.0) stops old.n i old.s s apart old.there there old.before
              (ap (λ (a : DevId). a.0) (sym old.device) ∙ equal));
        }

    pub anchor_skipped : ¬ IsStarter plant s.device.0 s.entry → AreAnchorsTo plant stops (i + 1) anchors
    anchor_skipped stays = record {
      only = λ k a at.
          let is = are.only k a at in record {
            n = is.n;
            s = is.s;
            there = is.there;
            before = omega (arith, is.before);
            starts = is.starts;
            device = is.device;
            after = is.after;
            starter = is.starter;
          };
      all = λ n t stands less starter. elim (cases_lt n i) [
        | inl before ↦ are.all n t stands before starter
        | inr more ↦
            let here : n ≡ i = omega (arith, less, more) in
            let same : t ≡ s = same_Some t s (sym stands ∙ ap (slice_get stops) here ∙ there) in
            absurd (stays (subst (λ (u : Stop). IsStarter plant u.device.0 u.entry) same starter))
      ];
      once = are.once;
    }
