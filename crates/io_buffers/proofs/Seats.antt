-- What one seat knows of the table: the other one's steps are there too, and the words belong to both.
use Rattle.std.proofs.Common.{◌≡◌, ◌⊎◌, ℕ, zero, suc, List, [], ◌∷◌, set, get_or, refl, sym, ap, ◌∙◌, subst, inl, inr, ⊎_elim}
use mathlib.Core.Option.{some, some-injective, some-ne-none}
use lib.ListN.{get_elem?}
use Rattle.atomic_table.specs.Table as table
use Rattle.io_buffers.specs.declared.views.Made.{Made}
use Rattle.io_buffers.specs.declared.views.View.{View}
use Rattle.io_buffers.specs.declared.views.View.TheVariants as view
use Rattle.io_buffers.specs.Rule.{IsExchange, Held}

-- the word 0, and what stands behind it
pub record ProducerSees (m : ℕ) (s : table.State ℕ View) (id : ℕ) (p : List Made) : Type 0 where
  pub cells : List ℕ
  pub consumer : List Made
  pub words : s.words ≡ get_or s.words 0 0 ∷ cells
  pub views : (v : View) → set s.views id v ≡ v ∷ view.Consumer consumer ∷ []
  pub exchange : IsExchange m (get_or s.words 0 0) cells p consumer

pub record ConsumerSees (m : ℕ) (s : table.State ℕ View) (id : ℕ) (c : List Made) : Type 0 where
  pub cells : List ℕ
  pub producer : List Made
  pub words : s.words ≡ get_or s.words 0 0 ∷ cells
  pub views : (v : View) → set s.views id v ≡ view.Producer producer ∷ v ∷ []
  pub exchange : IsExchange m (get_or s.words 0 0) cells producer c

one_at : (a : View) (id : ℕ) (v : View) → get_elem? (a ∷ []) id ≡ some v → (id ≡ 0) × (a ≡ v)
one_at a zero v e = (refl, some-injective a v e)
one_at a (suc id) v e = absurd (some-ne-none v (sym e))

pub two_at : (a b : View) (id : ℕ) (v : View) → get_elem? (a ∷ b ∷ []) id ≡ some v → ((id ≡ 0) × (a ≡ v)) ⊎ ((id ≡ 1) × (b ≡ v))
two_at a b zero v e = inl (refl, some-injective a v e)
two_at a b (suc zero) v e = inr (refl, some-injective b v e)
two_at a b (suc (suc id)) v e = absurd (some-ne-none v (sym e))

at_views : (vs ws : List View) (id : ℕ) (v : View) → vs ≡ ws → get_elem? vs id ≡ some v → get_elem? ws id ≡ some v
at_views vs ws id v e at = ap (λ (l : List View). get_elem? l id) (sym e) ∙ at

-- the word 0 is the control word
first_word : (ws cells : List ℕ) (w : ℕ) → ws ≡ w ∷ cells → get_or ws 0 0 ≡ w
first_word ws cells w e = ap (λ (l : List ℕ). get_or l 0 0) e

at_word : (m : ℕ) (s : table.State ℕ View) (h : Held m s) → (s.words ≡ get_or s.words 0 0 ∷ h.cells) × IsExchange m (get_or s.words 0 0) h.cells h.producer h.consumer
at_word m s h =
    let e = sym (first_word s.words h.cells h.control h.words) in
    (h.words ∙ ap (λ (w : ℕ). w ∷ h.cells) e, subst (λ (w : ℕ). IsExchange m w h.cells h.producer h.consumer) e h.exchange)

not_whole : (id : ℕ) (v : View) (vs : List View) → vs ≡ view.Whole ∷ [] → get_elem? vs id ≡ some v → view.Whole ≡ v
not_whole id v vs e at = (one_at view.Whole id v (at_views vs (view.Whole ∷ []) id v e at)).1

producer_pair : (m : ℕ) (s : table.State ℕ View) (id : ℕ) (p : List Made) (h : Held m s) → s.views ≡ view.Producer h.producer ∷ view.Consumer h.consumer ∷ [] → (id ≡ 0) × (view.Producer h.producer ≡ view.Producer p) → ProducerSees m s id p
producer_pair m s id p h e (first, same) =
    let w = at_word m s h in
    let q : h.producer ≡ p = cc same in
    record {
      cells = h.cells;
      consumer = h.consumer;
      words = w.0;
      views = λ v. ap (λ (l : List View). set l id v) e ∙ ap (λ (k : ℕ). set (view.Producer h.producer ∷ view.Consumer h.consumer ∷ []) k v) first;
      exchange = subst (λ (z : List Made). IsExchange m (get_or s.words 0 0) h.cells z h.consumer) q w.1;
    }

consumer_pair : (m : ℕ) (s : table.State ℕ View) (id : ℕ) (c : List Made) (h : Held m s) → s.views ≡ view.Producer h.producer ∷ view.Consumer h.consumer ∷ [] → (id ≡ 1) × (view.Consumer h.consumer ≡ view.Consumer c) → ConsumerSees m s id c
consumer_pair m s id c h e (second, same) =
    let w = at_word m s h in
    let q : h.consumer ≡ c = cc same in
    record {
      cells = h.cells;
      producer = h.producer;
      words = w.0;
      views = λ v. ap (λ (l : List View). set l id v) e ∙ ap (λ (k : ℕ). set (view.Producer h.producer ∷ view.Consumer h.consumer ∷ []) k v) second;
      exchange = subst (λ (z : List Made). IsExchange m (get_or s.words 0 0) h.cells h.producer z) q w.1;
    }

pub sees_producer : (m : ℕ) (s : table.State ℕ View) (id : ℕ) (p : List Made) → Held m s → get_elem? s.views id ≡ some (view.Producer p) → ProducerSees m s id p
sees_producer m s id p h at =
    ⊎_elim
    (λ e. let bad = not_whole id (view.Producer p) s.views e.0 at in absurd (cc))
    (⊎_elim
    (λ e. ⊎_elim (λ t. producer_pair m s id p h e t) (λ t. let bad = t.1 in absurd (cc))
    (two_at (view.Producer h.producer) (view.Consumer h.consumer) id (view.Producer p) (at_views s.views _ id _ e at)))
    (λ e. ⊎_elim (λ t. let bad = t.1 in absurd (cc)) (λ t. let bad = t.1 in absurd (cc))
    (two_at (view.Joined h.producer h.consumer) view.Spent id (view.Producer p) (at_views s.views _ id _ e at))))
    h.views

pub sees_consumer : (m : ℕ) (s : table.State ℕ View) (id : ℕ) (c : List Made) → Held m s → get_elem? s.views id ≡ some (view.Consumer c) → ConsumerSees m s id c
sees_consumer m s id c h at =
    ⊎_elim
    (λ e. let bad = not_whole id (view.Consumer c) s.views e.0 at in absurd (cc))
    (⊎_elim
    (λ e. ⊎_elim (λ t. let bad = t.1 in absurd (cc)) (λ t. consumer_pair m s id c h e t)
    (two_at (view.Producer h.producer) (view.Consumer h.consumer) id (view.Consumer c) (at_views s.views _ id _ e at)))
    (λ e. ⊎_elim (λ t. let bad = t.1 in absurd (cc)) (λ t. let bad = t.1 in absurd (cc))
    (two_at (view.Joined h.producer h.consumer) view.Spent id (view.Consumer c) (at_views s.views _ id _ e at))))
    h.views

-- the first seat is alone, and no step was made
pub record WholeSees (m : ℕ) (s : table.State ℕ View) (id : ℕ) : Type 0 where
  pub cells : List ℕ
  pub words : s.words ≡ get_or s.words 0 0 ∷ cells
  pub views : (v : View) → set s.views id v ≡ v ∷ []
  pub exchange : IsExchange m (get_or s.words 0 0) cells [] []

whole_alone : (m : ℕ) (s : table.State ℕ View) (id : ℕ) (h : Held m s) → s.views ≡ view.Whole ∷ [] → h.producer ≡ [] → h.consumer ≡ [] → id ≡ 0 → WholeSees m s id
whole_alone m s id h e p c first =
    let w = at_word m s h in
    record {
      cells = h.cells;
      words = w.0;
      views = λ v. ap (λ (l : List View). set l id v) e ∙ ap (λ (k : ℕ). set (view.Whole ∷ []) k v) first;
      exchange = subst (λ (z : List Made). IsExchange m (get_or s.words 0 0) h.cells [] z) c (subst (λ (z : List Made). IsExchange m (get_or s.words 0 0) h.cells z h.consumer) p w.1);
    }

pub sees_whole : (m : ℕ) (s : table.State ℕ View) (id : ℕ) → Held m s → get_elem? s.views id ≡ some view.Whole → WholeSees m s id
sees_whole m s id h at =
    ⊎_elim
    (λ e. whole_alone m s id h e.0 e.1 e.2 (one_at view.Whole id view.Whole (at_views s.views _ id _ e.0 at)).0)
    (⊎_elim
    (λ e. ⊎_elim (λ t. let bad = t.1 in absurd (cc)) (λ t. let bad = t.1 in absurd (cc))
    (two_at (view.Producer h.producer) (view.Consumer h.consumer) id view.Whole (at_views s.views _ id _ e at)))
    (λ e. ⊎_elim (λ t. let bad = t.1 in absurd (cc)) (λ t. let bad = t.1 in absurd (cc))
    (two_at (view.Joined h.producer h.consumer) view.Spent id view.Whole (at_views s.views _ id _ e at))))
    h.views

-- both sides in one seat, at the end
pub record JoinedSees (m : ℕ) (s : table.State ℕ View) (p c : List Made) : Type 0 where
  pub cells : List ℕ
  pub exchange : IsExchange m (get_or s.words 0 0) cells p c

joined_both : (m : ℕ) (s : table.State ℕ View) (p c : List Made) (h : Held m s) → view.Joined h.producer h.consumer ≡ view.Joined p c → JoinedSees m s p c
joined_both m s p c h same =
    let w = at_word m s h in
    let q : h.producer ≡ p = cc same in
    let r : h.consumer ≡ c = cc same in
    record {
      cells = h.cells;
      exchange = subst (λ (z : List Made). IsExchange m (get_or s.words 0 0) h.cells p z) r (subst (λ (z : List Made). IsExchange m (get_or s.words 0 0) h.cells z h.consumer) q w.1);
    }

pub sees_joined : (m : ℕ) (s : table.State ℕ View) (id : ℕ) (p c : List Made) → Held m s → get_elem? s.views id ≡ some (view.Joined p c) → JoinedSees m s p c
sees_joined m s id p c h at =
    ⊎_elim
    (λ e. let bad = not_whole id (view.Joined p c) s.views e.0 at in absurd (cc))
    (⊎_elim
    (λ e. ⊎_elim (λ t. let bad = t.1 in absurd (cc)) (λ t. let bad = t.1 in absurd (cc))
    (two_at (view.Producer h.producer) (view.Consumer h.consumer) id (view.Joined p c) (at_views s.views _ id _ e at)))
    (λ e. ⊎_elim (λ t. joined_both m s p c h t.1) (λ t. let bad = t.1 in absurd (cc))
    (two_at (view.Joined h.producer h.consumer) view.Spent id (view.Joined p c) (at_views s.views _ id _ e at))))
    h.views
