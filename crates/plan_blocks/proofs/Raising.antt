-- Last ends that rise, phase by phase.
use Rattle.std.proofs.Common.{◌+◌, ◌⊎◌, ℕ, inl, inr, List, refl, sym, ◌∙◌, subst, arith}
use Rattle.std.proofs.lemmas.Bool.{cases_eq}
use Rattle.irt_base.specs.Cycle.{IsDue}
use Rattle.placement.specs.declared.layout.Rate.{Rate}
use Rattle.plan_blocks.specs.Ends.{end_at, Raises, IsOneEnd, IsDueEnd}

abbrev Added : Type 1
Added = ℕ → ℕ → ℕ → ℕ → Type 0

-- two rises are one
pub raises_both : (P Q R : Added) (old mid new : List ℕ) → Raises P old mid → Raises Q mid new →
    ((d p k x : ℕ) → P d p k x → R d p k x) → ((d p k x : ℕ) → Q d p k x → R d p k x) →
    ((d p k x : ℕ) → R d p k x → P d p k x ⊎ Q d p k x) → Raises R old new
raises_both P Q R old mid new first second left right parts = record {
  keeps = λ d p k there.
      let one = first.keeps d p k there in
      let two = second.keeps d p k there in
      omega (arith, one, two);
  bound = λ d p k x there is. elim (parts d p k x is) [
    | inl one ↦
        let low = first.bound d p k x there one in
        let high = second.keeps d p k there in
        omega (arith, low, high)
    | inr two ↦ second.bound d p k x there two
  ];
  some = λ d p k there. elim (second.some d p k there) [
    | inl same ↦ elim (first.some d p k there) [
      | inl older ↦ inl (same ∙ older)
      | inr one ↦ inr (left d p k (end_at new d p k) (subst (λ (x : ℕ). P d p k x) (sym same) one))
    ]
    | inr two ↦ inr (right d p k (end_at new d p k) two)
  ];
}

pub raises_none : (P : Added) (ends : List ℕ) → ((d p k x : ℕ) → ¬ P d p k x) → Raises P ends ends
raises_none P ends none = record {
  keeps = λ d p k there. omega arith;
  bound = λ d p k x there is. absurd (none d p k x is);
  some = λ d p k there. inl refl;
}

module _ (rate : Rate) (device port end : ℕ) (old : List ℕ) where
  pub no_phase : Raises (IsDueEnd rate device port end 0) old old
  no_phase = raises_none (IsDueEnd rate device port end 0) old (λ d p k x is. absurd (omega (arith, is.before)))

  pub off_phase : (k : ℕ) (new : List ℕ) → ¬ IsDue k rate.ratio rate.phase → Raises (IsDueEnd rate device port end k) old new →
      Raises (IsDueEnd rate device port end (k + 1)) old new
  off_phase k new off r = record {
    keeps = r.keeps;
    bound = λ d p j x there is. r.bound d p j x there (less d p j x is);
    some = λ d p j there. elim (r.some d p j there) [
      | inl same ↦ inl same
      | inr is ↦ inr (record { device_is = is.device_is; port_is = is.port_is; before = omega (arith, is.before); due = is.due; end_is = is.end_is })
    ];
  }
    where
      less : (d p j x : ℕ) → IsDueEnd rate device port end (k + 1) d p j x → IsDueEnd rate device port end k d p j x
      less d p j x is = elim (cases_eq j k) [
        | inl same ↦ absurd (off (subst (λ (n : ℕ). IsDue n rate.ratio rate.phase) same is.due))
        | inr other ↦ record { device_is = is.device_is; port_is = is.port_is; before = omega (arith, is.before, other); due = is.due; end_is = is.end_is }
      ]

  pub on_phase : (k : ℕ) (mid new : List ℕ) → IsDue k rate.ratio rate.phase → Raises (IsDueEnd rate device port end k) old mid →
      Raises (IsOneEnd device port k end) mid new → Raises (IsDueEnd rate device port end (k + 1)) old new
  on_phase k mid new due first second = raises_both (IsDueEnd rate device port end k) (IsOneEnd device port k end)
      (IsDueEnd rate device port end (k + 1)) old mid new first second
      (λ d p j x is. record { device_is = is.device_is; port_is = is.port_is; before = omega (arith, is.before); due = is.due; end_is = is.end_is })
      (λ d p j x is. record {
        device_is = is.device_is;
        port_is = is.port_is;
        before = omega (arith, is.phase_is);
        due = subst (λ (n : ℕ). IsDue n rate.ratio rate.phase) (sym is.phase_is) due;
        end_is = is.end_is;
      })
      (λ d p j x is. elim (cases_eq j k) [
        | inl same ↦ inr (record { device_is = is.device_is; port_is = is.port_is; phase_is = same; end_is = is.end_is })
        | inr other ↦ inl (record { device_is = is.device_is; port_is = is.port_is; before = omega (arith, is.before, other); due = is.due; end_is = is.end_is })
      ])
