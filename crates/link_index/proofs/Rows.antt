-- Rows of wires, and the plant that they are of.
use Rattle.std.proofs.Common.{◌≡◌, ◌<◌, ◌≤◌, ◌+◌, ◌*◌, ◌==◌, ◌||◌, nat_le, ℕ, zero, suc, Bool, true, false, cond, if◌then◌else◌, List, [], ◌∷◌, length, get_or, set, drop, replicate, Option, Some, None, option_map, find, ◌⊎◌, inl, inr, refl, sym, ◌∙◌, ap, subst, arith, add-zero, zero-add}
use Rattle.std.proofs.lemmas.Bool.{cases_Bool, and_parts, or_cases, eqb-true, eq-eqb, leb-true, lt-ltb, le-ltb, true≢false}
use Rattle.std.proofs.lemmas.List.{drop_more, drop_all, length-replicate, length-set}
use Rattle.std.proofs.lemmas.Option.{get_or_from_slice_get, same_Some, slice_get_within}
use Rattle.std.specs.List.{AllByRecursion, slice_get, position_or_len}
use Rattle.std.specs.Option.{option_map_or}
use Rattle.irt_base.specs.Wiring.{begins_at, ends_at, touches, link_at, far_end, hop_over}
use Rattle.irt_base.specs.declared.limits.TheConstants.{MAX_PORTS, MAX_DELAY}
use Rattle.irt_base.specs.declared.numbers.DevId.{DevId}
use Rattle.irt_base.specs.declared.numbers.PortNo.{PortNo}
use Rattle.irt_base.specs.declared.plants.Device.{Device}
use Rattle.irt_base.specs.declared.plants.Link.{Link}
use Rattle.irt_base.specs.declared.plants.Plant.{Plant}
use Rattle.plant_rules.proofs.Delays.{all_at}
use Rattle.plant_rules.specs.Words.{has_port, is_within}
use Rattle.plant_rules.specs.Meets.{IsDevice, IsLink, MeetsRules}
use Rattle.link_index.proofs.Cells.{put, put_same, put_other, put_cases, put_width}
use Rattle.link_index.specs.Filling.{first_from, wire_from, AreRows, AreEntered}
use Rattle.link_index.specs.declared.index.TheConstants.{ROW}
use Rattle.link_index.specs.declared.index.Wire.{Wire}
use Rattle.link_index.specs.Index.{wire_in, wire_over, IsIndexOf, HasSmallHop, AreSmallRows}

-- a row that is there, and one that is not
pub wire_in-row : (rows : List (List (Option Wire))) (device port : ℕ) (row : List (Option Wire)) → slice_get rows device ≡ Some row
    → wire_in rows device port ≡ get_or row port None
wire_in-row rows device port row at = ap (λ r. get_or r port None) (get_or_from_slice_get rows device row [] at)

get_or-none : {A : Type 0} (xs : List A) (i : ℕ) (d : A) → slice_get xs i ≡ None → get_or xs i d ≡ d
get_or-none [] i d at = refl
get_or-none (x ∷ xs) zero d at = absurd cc
get_or-none (x ∷ xs) (suc i) d at = get_or-none xs i d at

pub wire_in-none : (rows : List (List (Option Wire))) (device port : ℕ) → slice_get rows device ≡ None → wire_in rows device port ≡ None
wire_in-none rows device port at = ap (λ r. get_or r port None) (get_or-none rows device [] at)

-- a look-up's answer, where the row is not there, and where it is
pub look_up-none : (rows now : List (List (Option Wire))) (i device port : ℕ) → rows ≡ now → i ≡ device → None ≡ slice_get rows i
    → None ≡ wire_in now device port
look_up-none rows now i device port same here at =
    sym (ap (λ r. wire_in r device port) (sym same) ∙ ap (λ d. wire_in rows d port) (sym here) ∙ wire_in-none rows i port (sym at))

pub look_up-some : (rows now : List (List (Option Wire))) (i device j port : ℕ) (row : List (Option Wire)) (wire : Option Wire) → rows ≡ now
    → i ≡ device → j ≡ port → Some row ≡ slice_get rows i → wire ≡ get_or row j None → wire ≡ wire_in now device port
look_up-some rows now i device j port row wire same here there at is =
    is ∙ sym (wire_in-row rows i j row (sym at)) ∙ ap (λ p. wire_in rows i p) there ∙ ap (λ d. wire_in rows d port) here
    ∙ ap (λ r. wire_in r device port) same

pub look_up-small : (rows : List (List (Option Wire))) (i j : ℕ) (row : List (Option Wire)) (wire : Option Wire) → AreSmallRows rows
    → Some row ≡ slice_get rows i → wire ≡ get_or row j None → HasSmallHop wire
look_up-small rows i j row wire small at is =
    subst (λ (w : Option Wire). HasSmallHop w) (wire_in-row rows i j row (sym at) ∙ sym is) (small i j)

-- what is found passes, and is one of the items
found : {A : Type 0} (P : A → Type 0) (test : A → Bool) (xs : List A) (x : A) → AllByRecursion P xs → find test xs ≡ Some x → P x × (test x ≡ true)
found P test [] x all at = absurd cc
found {A} P test (y ∷ ys) x all at =
    elim (cases_Bool (test y)) [
      | inl is ↦
          let same : y ≡ x = same_Some _ _ (sym (ap (λ b. cond b (Some y) (find test ys)) is) ∙ at) in
          (subst P same all.0, subst (λ (z : A). test z ≡ true) same is)
      | inr not_ ↦ found P test ys x all.1 (sym (ap (λ b. cond b (Some y) (find test ys)) not_) ∙ at)
    ]

-- a port that is there has a number within the row
port_from : (devices : List Device) (device port : ℕ) → AllByRecursion IsDevice devices
    → option_map_or (λ (d : Device). is_within 1 (length d.ports) port) (slice_get devices device) false ≡ true
    → (device < length devices) × (port ≤ MAX_PORTS)
port_from [] device port all h = absurd cc
port_from (d ∷ ds) zero port all h =
    let within : nat_le port (length d.ports) ≡ true = (and_parts (nat_le 1 port) (nat_le port (length d.ports)) h).1 in
    (omega arith, omega (arith, leb-true port (length d.ports) within, all.0.port_count.1))
port_from (d ∷ ds) (suc device) port all h =
    let (below, within) = port_from ds device port all.1 h in (omega arith, within)

ends_there : (p : Plant) (device port : ℕ) (l : Link) → IsLink p l → touches device port l ≡ true → has_port p device port ≡ true
ends_there p device port l is h =
    elim (or_cases (begins_at device port l) (ends_at device port l) h) [
      | inl first ↦
          let (at, on) = and_parts (l.a.0 == device) (l.a_port.0 == port) first in
          subst (λ (q : ℕ). has_port p device q ≡ true) (eqb-true l.a_port.0 port on)
          (subst (λ (d : ℕ). has_port p d l.a_port.0 ≡ true) (eqb-true l.a.0 device at) is.first_port)
      | inr second ↦
          let (at, on) = and_parts (l.b.0 == device) (l.b_port.0 == port) second in
          subst (λ (q : ℕ). has_port p device q ≡ true) (eqb-true l.b_port.0 port on)
          (subst (λ (d : ℕ). has_port p d l.b_port.0 ≡ true) (eqb-true l.b.0 device at) is.second_port)
    ]

-- the other end of a link is a port that is there
far_by : (p : Plant) (l : Link) (first : Bool) → IsLink p l → (far : DevId × PortNo)
    → (if first then (l.b, l.b_port) else (l.a, l.a_port)) ≡ far → has_port p far.0.0 far.1.0 ≡ true
far_by p l true is far same = subst (λ (f : DevId × PortNo). has_port p f.0.0 f.1.0 ≡ true) same is.second_port
far_by p l false is far same = subst (λ (f : DevId × PortNo). has_port p f.0.0 f.1.0 ≡ true) same is.first_port

far_there : (p : Plant) (device port : ℕ) (l : Link) → IsLink p l
    → has_port p (far_end device port l).0.0 (far_end device port l).1.0 ≡ true
far_there p device port l is = far_by p l (begins_at device port l) is (far_end device port l) refl

peers_within : (p : Plant) (device port : ℕ) (far : DevId × PortNo) (found_link : Option Link) → MeetsRules p → link_at p device port ≡ found_link
    → option_map (far_end device port) found_link ≡ Some far → (device < length p.devices) × (port ≤ MAX_PORTS) × (far.0.0 < length p.devices)
peers_within p device port far None m at is = absurd cc
peers_within p device port far (Some l) m at is =
    let (of, touch) = found (IsLink p) (touches device port) p.links l m.links at in
    let (here, within) = port_from p.devices device port m.devices (ends_there p device port l of touch) in
    let (there, _) = port_from p.devices (far_end device port l).0.0 (far_end device port l).1.0 m.devices (far_there p device port l of) in
    (here, within, subst (λ (f : DevId × PortNo). f.0.0 < length p.devices) (same_Some (far_end device port l) far is) there)

-- ---- links entered from the last to the first

-- the first link that passes, its number and what is found
found_first : (test : Link → Bool) (wire : ℕ → Link → Wire) (n : ℕ) (links : List Link)
    → ((first_from test wire n links ≡ None) × (find test links ≡ None) × (length links ≤ position_or_len test links))
    ⊎ ((l : Link) × (first_from test wire n links ≡ Some (wire (n + position_or_len test links) l)) × (find test links ≡ Some l)
    × (position_or_len test links < length links))
found_first test wire n [] = inl (refl, refl, omega arith)
found_first test wire n (l ∷ ls) = elim (cases_Bool (test l)) [
  | inl passes ↦ inr (l, rw passes (ap (λ (k : ℕ). Some (wire k l)) (sym (add-zero n))), rw passes refl, rw passes (omega arith))
  | inr not_ ↦ elim (found_first test wire (n + 1) ls) [
    | inl (none, nowhere, past) ↦ inl (rw not_ none, rw not_ nowhere, rw not_ (omega (arith, past)))
    | inr (m, is, at, within) ↦
        let next : n + 1 + position_or_len test ls ≡ n + (1 + position_or_len test ls) = omega arith in
        inr (m, rw not_ (is ∙ ap (λ (k : ℕ). Some (wire k m)) next), rw not_ at, rw not_ (omega (arith, within)))
  ]
]

module _ (p : Plant) where
  -- both ends of a link are on the plant
  pub on_plant : (number : ℕ) (l : Link) → MeetsRules p → slice_get p.links number ≡ Some l
      → (l.a.0 < length p.devices) × (l.a_port.0 < ROW) × (l.b.0 < length p.devices) × (l.b_port.0 < ROW) × (l.delay ≤ MAX_DELAY)
  on_plant number l m at =
      let is = all_at (IsLink p) p.links number l m.links at in
      let (first, first_port) = port_from p.devices l.a.0 l.a_port.0 m.devices is.first_port in
      let (second, second_port) = port_from p.devices l.b.0 l.b_port.0 m.devices is.second_port in
      (first, omega (arith, first_port), second, omega (arith, second_port), is.delay)

  -- ---- no link

  abbrev nothing : Option Wire
  nothing = None

  all_none : (width n : ℕ) → get_or (replicate width nothing) n nothing ≡ nothing
  all_none zero n = refl
  all_none (suc width) zero = refl
  all_none (suc width) (suc n) = all_none width n

  none_in : (devices width m n : ℕ) → wire_in (replicate devices (replicate width nothing)) m n ≡ nothing
  none_in zero width m n = refl
  none_in (suc devices) width zero n = all_none width n
  none_in (suc devices) width (suc m) n = none_in devices width m n

  wide : (devices width m : ℕ) → m < devices → length (get_or (replicate devices (replicate width nothing)) m []) ≡ width
  wide zero width m there = absurd (omega arith)
  wide (suc devices) width zero there = length-replicate width nothing
  wide (suc devices) width (suc m) there = wide devices width m (omega arith)

  none_small : HasSmallHop None
  none_small = λ w is. absurd cc

  pub none_entered : (number devices : ℕ) (rows : List (List (Option Wire))) → number ≡ length p.links → devices ≡ length p.devices
      → rows ≡ replicate devices (replicate ROW None) → AreEntered p number rows
  none_entered number devices rows all count is =
      subst (λ (r : List (List (Option Wire))). AreEntered p number r) (sym is) (record {
        shape = record {
          count = length-replicate devices (replicate ROW None) ∙ count;
          width = λ device there. wide devices ROW device (omega (arith, count));
        };
        wires = λ device port.
            none_in devices ROW device port
            ∙ sym (ap (first_from (touches device port) (wire_over p device port) number) (drop_all number p.links (omega (arith, all))));
        small = λ device port. subst (λ (w : Option Wire). HasSmallHop w) (sym (none_in devices ROW device port)) none_small;
      })

  -- ---- one link more

  module _ (number : ℕ) (l : Link) (rows : List (List (Option Wire))) (m : MeetsRules p) (at : slice_get p.links number ≡ Some l)
      (entered : AreEntered p (number + 1) rows) (far near : Wire) (far_is : far ≡ wire_over p l.b.0 l.b_port.0 number l)
      (near_is : near ≡ wire_over p l.a.0 l.a_port.0 number l) where
    abbrev once : List (List (Option Wire))
    once = put rows l.b.0 l.b_port.0 (Some far)

    abbrev twice : List (List (Option Wire))
    twice = put once l.a.0 l.a_port.0 (Some near)

    shaped : (table : List (List (Option Wire))) (i j : ℕ) (w : Option Wire) → AreRows (length p.devices) table → i < length p.devices
        → AreRows (length p.devices) (put table i j w)
    shaped table i j w shape there = record {
      count = length-set table i (set (get_or table i []) j w) ∙ shape.count;
      width = λ device below. put_width table i j w (omega (arith, shape.count)) device ∙ shape.width device below;
    }

    small_put : (table : List (List (Option Wire))) (i j : ℕ) (w : Wire) → AreRows (length p.devices) table → i < length p.devices → j < ROW
        → AreSmallRows table → w.hop ≤ 3 * MAX_DELAY → AreSmallRows (put table i j (Some w))
    small_put table i j w shape there placed small low device port =
        elim (put_cases table i j (Some w) (omega (arith, shape.count)) (omega (arith, shape.width i there)) device port) [
          | inl here ↦
              subst (λ (o : Option Wire). HasSmallHop o) (sym here)
              (λ v is. subst (λ (x : Wire). x.hop ≤ 3 * MAX_DELAY) (same_Some w v is) low)
          | inr other ↦ subst (λ (o : Option Wire). HasSmallHop o) (sym other) (small device port)
        ]

    -- what the first of the links says of a port
    chosen : (device port : ℕ)
        → wire_in twice device port ≡ cond (touches device port l) (Some (wire_over p device port number l)) (wire_in rows device port)
    chosen device port =
        let (first, first_port, second, second_port, delay) = on_plant number l m at in
        let shape = entered.shape in
        let next = shaped rows l.b.0 l.b_port.0 (Some far) shape second in
        let in_second : l.b.0 < length rows = omega (arith, shape.count, second) in
        let in_first : l.a.0 < length once = omega (arith, next.count, first) in
        elim (cases_Bool (begins_at device port l)) [
          | inl begins ↦
              let (dev, por) = and_parts (l.a.0 == device) (l.a_port.0 == port) begins in
              let same_device : device ≡ l.a.0 = sym (eqb-true l.a.0 device dev) in
              let same_port : port ≡ l.a_port.0 = sym (eqb-true l.a_port.0 port por) in
              ap (λ (d : ℕ). wire_in twice d port) same_device ∙ ap (λ (q : ℕ). wire_in twice l.a.0 q) same_port
              ∙ put_same once l.a.0 l.a_port.0 (Some near) in_first (omega (arith, next.width l.a.0 first, first_port))
              ∙ ap (λ (w : Wire). Some w) (near_is ∙ ap (λ (d : ℕ). wire_over p d l.a_port.0 number l) (sym same_device)
              ∙ ap (λ (q : ℕ). wire_over p device q number l) (sym same_port))
              ∙ sym (ap (λ (b : Bool). cond (b || ends_at device port l) (Some (wire_over p device port number l)) (wire_in rows device port)) begins)
          | inr not_first ↦
              let off : ¬ ((device ≡ l.a.0) × (port ≡ l.a_port.0)) = λ both. not_begins device port both not_first in
              put_other once l.a.0 l.a_port.0 (Some near) in_first device port off
              ∙ elim (cases_Bool (ends_at device port l)) [
                | inl ends ↦
                    let (dev, por) = and_parts (l.b.0 == device) (l.b_port.0 == port) ends in
                    let same_device : device ≡ l.b.0 = sym (eqb-true l.b.0 device dev) in
                    let same_port : port ≡ l.b_port.0 = sym (eqb-true l.b_port.0 port por) in
                    ap (λ (d : ℕ). wire_in once d port) same_device ∙ ap (λ (q : ℕ). wire_in once l.b.0 q) same_port
                    ∙ put_same rows l.b.0 l.b_port.0 (Some far) in_second (omega (arith, shape.width l.b.0 second, second_port))
                    ∙ ap (λ (w : Wire). Some w) (far_is ∙ ap (λ (d : ℕ). wire_over p d l.b_port.0 number l) (sym same_device)
                    ∙ ap (λ (q : ℕ). wire_over p device q number l) (sym same_port))
                    ∙ sym (touching device port (begins_at device port l) (ends_at device port l) true not_first ends)
                | inr not_second ↦
                    put_other rows l.b.0 l.b_port.0 (Some far) in_second device port (λ both. not_ends device port both not_second)
                    ∙ sym (touching device port (begins_at device port l) (ends_at device port l) false not_first not_second)
              ]
        ]
      where
        not_begins : (device port : ℕ) → (device ≡ l.a.0) × (port ≡ l.a_port.0) → begins_at device port l ≡ false → ⊥
        not_begins device port both off =
            let on : begins_at device port l ≡ true = rw (eq-eqb l.a.0 device (sym both.0), eq-eqb l.a_port.0 port (sym both.1)) refl in
            true≢false (sym on ∙ off)

        not_ends : (device port : ℕ) → (device ≡ l.b.0) × (port ≡ l.b_port.0) → ends_at device port l ≡ false → ⊥
        not_ends device port both off =
            let on : ends_at device port l ≡ true = rw (eq-eqb l.b.0 device (sym both.0), eq-eqb l.b_port.0 port (sym both.1)) refl in
            true≢false (sym on ∙ off)

        touching : (device port : ℕ) (b e v : Bool) → b ≡ false → e ≡ v
            → cond (b || e) (Some (wire_over p device port number l)) (wire_in rows device port)
            ≡ cond v (Some (wire_over p device port number l)) (wire_in rows device port)
        touching device port b e v off is = rw (off, is) refl

    pub entered_more : (after : List (List (Option Wire))) → far.hop ≤ 3 * MAX_DELAY → near.hop ≤ 3 * MAX_DELAY → after ≡ twice → AreEntered p number after
    entered_more after far_small near_small is =
        let (first, first_port, second, second_port, delay) = on_plant number l m at in
        let next = shaped rows l.b.0 l.b_port.0 (Some far) entered.shape second in
        let rest : drop number p.links ≡ l ∷ drop (number + 1) p.links =
        drop_more p.links number l (slice_get_within p.links number l at)
        ∙ ap (λ (x : Link). x ∷ drop (number + 1) p.links) (get_or_from_slice_get p.links number l l at) in
        subst (λ (r : List (List (Option Wire))). AreEntered p number r) (sym is) (record {
          shape = shaped once l.a.0 l.a_port.0 (Some near) next first;
          wires = λ device port.
              chosen device port
              ∙ ap (λ (w : Option Wire). cond (touches device port l) (Some (wire_over p device port number l)) w) (entered.wires device port)
              ∙ sym (ap (first_from (touches device port) (wire_over p device port) number) rest);
          small = small_put once l.a.0 l.a_port.0 near next first first_port
              (small_put rows l.b.0 l.b_port.0 far entered.shape second second_port entered.small far_small) near_small;
        })

  -- ---- all links

  pub index_from : (number : ℕ) (rows : List (List (Option Wire))) → MeetsRules p → number ≡ 0 → AreEntered p number rows → IsIndexOf p rows
  index_from number rows m none entered =
      let wires : (device port : ℕ) → wire_in rows device port ≡ first_from (touches device port) (wire_over p device port) 0 p.links =
      λ device port. entered.wires device port ∙ ap (λ (n : ℕ). wire_from p device port n) none in
      record {
        peers = λ device port. elim (found_first (touches device port) (wire_over p device port) 0 p.links) [
          | inl (is, nowhere, past) ↦
              ap (option_map (λ (w : Wire). (w.device, w.port))) (wires device port ∙ is) ∙ sym (ap (option_map (far_end device port)) nowhere)
          | inr (l, is, at, within) ↦
              ap (option_map (λ (w : Wire). (w.device, w.port))) (wires device port ∙ is) ∙ sym (ap (option_map (far_end device port)) at)
        ];
        hops = λ device port. elim (found_first (touches device port) (wire_over p device port) 0 p.links) [
          | inl (is, nowhere, past) ↦
              ap (option_map (λ (w : Wire). w.hop)) (wires device port ∙ is) ∙ sym (ap (option_map (hop_over p device port)) nowhere)
          | inr (l, is, at, within) ↦
              ap (option_map (λ (w : Wire). w.hop)) (wires device port ∙ is) ∙ sym (ap (option_map (hop_over p device port)) at)
        ];
        numbers = λ device port. elim (found_first (touches device port) (wire_over p device port) 0 p.links) [
          | inl (is, nowhere, past) ↦
              ap (option_map (λ (w : Wire). w.number)) (wires device port ∙ is)
              ∙ sym (ap (λ (b : Bool). cond b (Some (position_or_len (touches device port) p.links)) None) (le-ltb (position_or_len (touches device port) p.links) (length p.links) past))
          | inr (l, is, at, within) ↦
              ap (option_map (λ (w : Wire). w.number)) (wires device port ∙ is)
              ∙ ap (λ (n : ℕ). Some n) (zero-add (position_or_len (touches device port) p.links))
              ∙ sym (ap (λ (b : Bool). cond b (Some (position_or_len (touches device port) p.links)) None) (lt-ltb (position_or_len (touches device port) p.links) (length p.links) within))
        ];
        within = λ device port far is. peers_within p device port far (link_at p device port) m refl is;
      }
