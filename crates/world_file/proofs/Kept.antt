-- What a draft keeps of a line's values.
use Rattle.std.proofs.Common.{◌≡◌, ◌<◌, ◌≤◌, ◌+◌, ◌⊎◌, ℕ, ℤ, pos, ◌≤ℤ◌, true, false, List, [], ◌∷◌, ◌++◌, map, length, slice_get, Some, refl, sym, ◌∙◌, ap, subst, arith, append_assoc, inl, inr}
use Rattle.std.specs.List.{AllByRecursion}
use Rattle.std.proofs.lemmas.Bool.{cases_Bool}
use Rattle.std.proofs.lemmas.List.{append-nil}
use Rattle.irt_base.specs.Valid.{IsWithin}
use Rattle.irt_base.specs.declared.plants.Device.{Device}
use Rattle.irt_base.specs.declared.plants.Plant.{Plant}
use Rattle.irt_world.specs.Rows.{IsError}
use Rattle.irt_world.specs.declared.forwardings.Forwarding.{Forwarding}
use Rattle.world_file.specs.Reading.{is_delay, is_error, is_link, push_delay, push_error, push_link, signed_of, stopped, with_delay, with_error, with_link}
use Rattle.world_file.specs.Wrong.{IsDelay, IsLinkNumber}
use Rattle.world_file.specs.declared.draft.Draft.{Draft}
use Rattle.world_file.specs.declared.number.Number.{Number}
use Rattle.world_file.specs.declared.number.TheConstants.{FAR}
use Rattle.world_file.proofs.LineText.{each_with, links_with}
use Rattle.world_file.proofs.NumberText.{near}
use Rattle.world_file.proofs.Values.{right_delay, right_error, right_link, wrong_delay, wrong_error, wrong_link}

-- Once wrong, a draft stays as it is.
pub each_stays : {X : Type 0} (step : Draft → X → Number → Draft) → ((d : Draft) (x : X) (m : Number) → d.is_wrong ≡ true → step d x m ≡ d) →
    (xs : List X) (zs : List ℤ) (d : Draft) → d.is_wrong ≡ true → each_with step xs zs d ≡ d
each_stays step stays [] zs d wrong = refl
each_stays step stays (x ∷ xs) [] d wrong = refl
each_stays step stays (x ∷ xs) (z ∷ zs) d wrong = ap (each_with step xs zs) (stays d x (near z) wrong) ∙ each_stays step stays xs zs d wrong

pub error_stays : (d : Draft) (x : Device) (m : Number) → d.is_wrong ≡ true → with_error d m ≡ d
error_stays d x m wrong = rw wrong refl

pub delay_stays : (d : Draft) (f : Forwarding) (m : Number) → d.is_wrong ≡ true → with_delay d f m ≡ d
delay_stays d f m wrong = rw wrong refl

pub links_stay : (links : ℕ) (zs : List ℤ) (d : Draft) → d.is_wrong ≡ true → links_with links zs d ≡ d
links_stay links [] d wrong = refl
links_stay links (z ∷ zs) d wrong =
    let stays : with_link links d (near z) ≡ d = rw wrong refl in
    ap (links_with links zs) stays ∙ links_stay links zs d wrong

-- the draft with more errors kept, and so on
abbrev pub more_errors : Draft → List ℤ → Draft
more_errors d zs = record {
  row = record { errors = d.row.errors ++ zs; bridges = d.row.bridges; cuts = d.row.cuts };
  least_link = d.least_link;
  is_wrong = d.is_wrong;
}

abbrev pub more_delays : Draft → List ℕ → Draft
more_delays d ns = record {
  row = record { errors = d.row.errors; bridges = d.row.bridges ++ ns; cuts = d.row.cuts };
  least_link = d.least_link;
  is_wrong = d.is_wrong;
}

-- the least number after some links
abbrev pub least_after : ℕ → List ℕ → ℕ
least_after least [] = least
least_after least (n ∷ ns) = least_after (n + 1) ns

abbrev pub more_links : Draft → List ℕ → Draft
more_links d ns = record {
  row = record { errors = d.row.errors; bridges = d.row.bridges; cuts = d.row.cuts ++ ns };
  least_link = least_after d.least_link ns;
  is_wrong = d.is_wrong;
}

-- All errors are in range, or the first that is not comes after those that are kept.
pub record ErrorsUpTo (devices : List Device) (zs : List ℤ) (d : Draft) : Type 0 where
  pub before : List ℤ
  pub z : ℤ
  pub after : List ℤ
  pub are : zs ≡ before ++ z ∷ after
  pub right : AllByRecursion IsError before
  pub wrong : ¬ IsError z
  pub draft : each_with (λ e _ m. with_error e m) devices zs d ≡ stopped (more_errors d before)

pub record AllErrors (devices : List Device) (zs : List ℤ) (d : Draft) : Type 0 where
  pub right : AllByRecursion IsError zs
  pub draft : each_with (λ e _ m. with_error e m) devices zs d ≡ more_errors d zs

no_more_errors : (d : Draft) → more_errors d [] ≡ d
no_more_errors d = ap (λ zs. record { row = record { errors = zs; bridges = d.row.bridges; cuts = d.row.cuts }; least_link = d.least_link; is_wrong = d.is_wrong }) (append-nil d.row.errors)

one_more_error : (d : Draft) (m : Number) (z : ℤ) (zs : List ℤ) → signed_of m ≡ z → more_errors (push_error d m) zs ≡ more_errors d (z ∷ zs)
one_more_error d m z zs is =
    ap (λ es. record { row = record { errors = es; bridges = d.row.bridges; cuts = d.row.cuts }; least_link = d.least_link; is_wrong = d.is_wrong })
    (append_assoc d.row.errors (signed_of m ∷ []) zs ∙ ap (λ y. d.row.errors ++ y ∷ zs) is)

pub errors_kept : (devices : List Device) (zs : List ℤ) (d : Draft) → d.is_wrong ≡ false → length zs ≡ length devices → AllErrors devices zs d ⊎ ErrorsUpTo devices zs d
errors_kept [] [] d fine count = inl (record { right = tt; draft = sym (no_more_errors d) })
errors_kept [] (z ∷ zs) d fine count = absurd (omega arith)
errors_kept (x ∷ xs) [] d fine count = absurd (omega arith)
errors_kept (x ∷ xs) (z ∷ zs) d fine count =
    elim (cases_Bool (is_error (near z))) [
      | inl right ↦
          let (in_range, same) = right_error z right in
          let step : with_error d (near z) ≡ push_error d (near z) = rw (fine, right) refl in
          elim (errors_kept xs zs (push_error d (near z)) fine (omega arith)) [
            | inl all ↦ inl (record {
              right = (in_range, all.right);
              draft = ap (each_with (λ e _ m. with_error e m) xs zs) step ∙ all.draft ∙ one_more_error d (near z) z zs same;
            })
            | inr some ↦ inr (record {
              before = z ∷ some.before;
              z = some.z;
              after = some.after;
              are = ap (λ ys. z ∷ ys) some.are;
              right = (in_range, some.right);
              wrong = some.wrong;
              draft = ap (each_with (λ e _ m. with_error e m) xs zs) step ∙ some.draft ∙ ap stopped (one_more_error d (near z) z some.before same);
            })
          ]
      | inr wrong ↦
          let step : with_error d (near z) ≡ stopped d = rw (fine, wrong) refl in
          inr (record {
            before = [];
            z = z;
            after = zs;
            are = refl;
            right = tt;
            wrong = wrong_error z wrong;
            draft = ap (each_with (λ e _ m. with_error e m) xs zs) step ∙ each_stays (λ e _ m. with_error e m) error_stays xs zs (stopped d) refl
                ∙ ap stopped (sym (no_more_errors d));
          })
    ]

-- each bridge delay is in the range of its forwarding
abbrev pub AreDelays : List Forwarding → List ℕ → Type 0
AreDelays fs [] = Unit {0}
AreDelays [] (n ∷ ns) = ⊥
AreDelays (f ∷ fs) (n ∷ ns) = IsWithin f.bmin f.bmax n × AreDelays fs ns

pub record DelaysUpTo (fs : List Forwarding) (zs : List ℤ) (d : Draft) : Type 0 where
  pub before : List ℕ
  pub f : Forwarding
  pub z : ℤ
  pub after : List ℤ
  pub are : zs ≡ map (λ n. pos n) before ++ z ∷ after
  pub right : AreDelays fs before
  pub forwarding : slice_get fs (length before) ≡ Some f
  pub wrong : ¬ IsDelay f z
  pub draft : each_with with_delay fs zs d ≡ stopped (more_delays d before)

pub record AllDelays (fs : List Forwarding) (zs : List ℤ) (d : Draft) : Type 0 where
  pub delays : List ℕ
  pub are : zs ≡ map (λ n. pos n) delays
  pub right : AreDelays fs delays
  pub draft : each_with with_delay fs zs d ≡ more_delays d delays

no_more_delays : (d : Draft) → more_delays d [] ≡ d
no_more_delays d = ap (λ ns. record { row = record { errors = d.row.errors; bridges = ns; cuts = d.row.cuts }; least_link = d.least_link; is_wrong = d.is_wrong }) (append-nil d.row.bridges)

one_more_delay : (d : Draft) (m : Number) (n : ℕ) (ns : List ℕ) → m.size ≡ n → more_delays (push_delay d m) ns ≡ more_delays d (n ∷ ns)
one_more_delay d m n ns is =
    ap (λ es. record { row = record { errors = d.row.errors; bridges = es; cuts = d.row.cuts }; least_link = d.least_link; is_wrong = d.is_wrong })
    (append_assoc d.row.bridges (m.size ∷ []) ns ∙ ap (λ y. d.row.bridges ++ y ∷ ns) is)

pub delays_kept : (fs : List Forwarding) (zs : List ℤ) (d : Draft) → d.is_wrong ≡ false → length zs ≡ length fs → AllByRecursion (λ f. f.bmax < FAR) fs → AllDelays fs zs d ⊎ DelaysUpTo fs zs d
delays_kept [] [] d fine count bounds = inl (record { delays = []; are = refl; right = tt; draft = sym (no_more_delays d) })
delays_kept [] (z ∷ zs) d fine count bounds = absurd (omega arith)
delays_kept (x ∷ xs) [] d fine count bounds = absurd (omega arith)
delays_kept (x ∷ xs) (z ∷ zs) d fine count bounds =
    elim (cases_Bool (is_delay x (near z))) [
      | inl right ↦
          let (p, in_range) = right_delay x z bounds.0 right in
          let step : with_delay d x (near z) ≡ push_delay d (near z) = rw (fine, right) refl in
          elim (delays_kept xs zs (push_delay d (near z)) fine (omega arith) bounds.1) [
            | inl all ↦ inl (record {
              delays = p.n ∷ all.delays;
              are = ap (λ y. y ∷ zs) p.is ∙ ap (λ ys. pos p.n ∷ ys) all.are;
              right = (in_range, all.right);
              draft = ap (each_with with_delay xs zs) step ∙ all.draft ∙ one_more_delay d (near z) p.n all.delays p.size;
            })
            | inr some ↦ inr (record {
              before = p.n ∷ some.before;
              f = some.f;
              z = some.z;
              after = some.after;
              are = ap (λ y. y ∷ zs) p.is ∙ ap (λ ys. pos p.n ∷ ys) some.are;
              right = (in_range, some.right);
              forwarding = some.forwarding;
              wrong = some.wrong;
              draft = ap (each_with with_delay xs zs) step ∙ some.draft ∙ ap stopped (one_more_delay d (near z) p.n some.before p.size);
            })
          ]
      | inr wrong ↦
          let step : with_delay d x (near z) ≡ stopped d = rw (fine, wrong) refl in
          inr (record {
            before = [];
            f = x;
            z = z;
            after = zs;
            are = refl;
            right = tt;
            forwarding = refl;
            wrong = wrong_delay x z bounds.0 wrong;
            draft = ap (each_with with_delay xs zs) step ∙ each_stays with_delay delay_stays xs zs (stopped d) refl ∙ ap stopped (sym (no_more_delays d));
          })
    ]

-- links of a plant with so many, ascending, from a number on
abbrev pub AreLinksFrom : ℕ → ℕ → List ℕ → Type 0
AreLinksFrom least links [] = Unit {0}
AreLinksFrom least links (n ∷ ns) = (least ≤ n) × (n < links) × AreLinksFrom (n + 1) links ns

pub record LinksUpTo (plant : Plant) (zs : List ℤ) (d : Draft) : Type 0 where
  pub before : List ℕ
  pub z : ℤ
  pub after : List ℤ
  pub are : zs ≡ map (λ n. pos n) before ++ z ∷ after
  pub right : AreLinksFrom d.least_link (length plant.links) before
  pub wrong : ¬ (IsLinkNumber plant z × (pos (least_after d.least_link before) ≤ℤ z))
  pub draft : links_with (length plant.links) zs d ≡ stopped (more_links d before)

pub record AllLinks (plant : Plant) (zs : List ℤ) (d : Draft) : Type 0 where
  pub cuts : List ℕ
  pub are : zs ≡ map (λ n. pos n) cuts
  pub right : AreLinksFrom d.least_link (length plant.links) cuts
  pub draft : links_with (length plant.links) zs d ≡ more_links d cuts

no_more_links : (d : Draft) → more_links d [] ≡ d
no_more_links d = ap (λ ns. record { row = record { errors = d.row.errors; bridges = d.row.bridges; cuts = ns }; least_link = d.least_link; is_wrong = d.is_wrong }) (append-nil d.row.cuts)

one_more_link : (d : Draft) (m : Number) (n : ℕ) (ns : List ℕ) → m.size ≡ n → more_links (push_link d m) ns ≡ more_links d (n ∷ ns)
one_more_link d m n ns is =
    ap (λ es. record { row = record { errors = d.row.errors; bridges = d.row.bridges; cuts = es }; least_link = least_after (m.size + 1) ns; is_wrong = d.is_wrong })
    (append_assoc d.row.cuts (m.size ∷ []) ns ∙ ap (λ y. d.row.cuts ++ y ∷ ns) is)
    ∙ ap (λ k. record { row = record { errors = d.row.errors; bridges = d.row.bridges; cuts = d.row.cuts ++ n ∷ ns }; least_link = least_after (k + 1) ns; is_wrong = d.is_wrong }) is

pub links_kept : (plant : Plant) (zs : List ℤ) (d : Draft) → d.is_wrong ≡ false → length plant.links < FAR → AllLinks plant zs d ⊎ LinksUpTo plant zs d
links_kept plant [] d fine bound = inl (record { cuts = []; are = refl; right = tt; draft = sym (no_more_links d) })
links_kept plant (z ∷ zs) d fine bound =
    elim (cases_Bool (is_link d.least_link (length plant.links) (near z))) [
      | inl right ↦
          let (p, low, high) = right_link d.least_link (length plant.links) z bound right in
          let step : with_link (length plant.links) d (near z) ≡ push_link d (near z) = rw (fine, right) refl in
          elim (links_kept plant zs (push_link d (near z)) fine bound) [
            | inl all ↦ inl (record {
              cuts = p.n ∷ all.cuts;
              are = ap (λ y. y ∷ zs) p.is ∙ ap (λ ys. pos p.n ∷ ys) all.are;
              right = (low, high, subst (λ k. AreLinksFrom (k + 1) (length plant.links) all.cuts) p.size all.right);
              draft = ap (links_with (length plant.links) zs) step ∙ all.draft ∙ one_more_link d (near z) p.n all.cuts p.size;
            })
            | inr some ↦ inr (record {
              before = p.n ∷ some.before;
              z = some.z;
              after = some.after;
              are = ap (λ y. y ∷ zs) p.is ∙ ap (λ ys. pos p.n ∷ ys) some.are;
              right = (low, high, subst (λ k. AreLinksFrom (k + 1) (length plant.links) some.before) p.size some.right);
              wrong = subst (λ k. ¬ (IsLinkNumber plant some.z × (pos (least_after (k + 1) some.before) ≤ℤ some.z))) p.size some.wrong;
              draft = ap (links_with (length plant.links) zs) step ∙ some.draft ∙ ap stopped (one_more_link d (near z) p.n some.before p.size);
            })
          ]
      | inr wrong ↦
          let step : with_link (length plant.links) d (near z) ≡ stopped d = rw (fine, wrong) refl in
          inr (record {
            before = [];
            z = z;
            after = zs;
            are = refl;
            right = tt;
            wrong = wrong_link d.least_link plant z bound wrong;
            draft = ap (links_with (length plant.links) zs) step ∙ links_stay (length plant.links) zs (stopped d) refl ∙ ap stopped (sym (no_more_links d));
          })
    ]
