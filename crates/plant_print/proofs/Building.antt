-- Tables of a map, and texts of names.
use Rattle.std.proofs.Common.{◌≡◌, ◌<◌, ℕ, zero, suc, List, [], ◌∷◌, get_or, Ordering, Less, Equal, Greater, String, Global, string_bytes, IsUtf8, refl, ◌∙◌, ap, arith}
use Rattle.std.proofs.lemmas.Str.{IsUtf8-from_ascii}
use Rattle.std.proofs.lemmas.Bool.Decides.{nat_tests}
use Rattle.std.specs.BTreeMap.{insert_entry}
use Rattle.std.specs.String.{string_cmp}
use Rattle.std.specs.List.{AllByRecursion}
use Rattle.std.specs.Ordering.{match_ordering}
use Rattle.toml.proofs.Views.{Entry}
use Rattle.toml.specs.View.{view, members_view}
use Rattle.toml.specs.declared.value.Value.{Value}
use Rattle.plant_rules.specs.Meets.{IsName, IsNameByte}
use Rattle.plant_print.specs.Written.{with_member}

match_members : (o : Ordering) (a b c : List Entry) → members_view (match_ordering o a b c) ≡ match_ordering o (members_view a) (members_view b) (members_view c)
match_members Less a b c = refl
match_members Equal a b c = refl
match_members Greater a b c = refl

pub members_view-insert_entry : (es : List Entry) (k : String Global) (v : Value)
    → members_view (insert_entry string_cmp es k v) ≡ with_member (string_bytes k) (view v) (members_view es)
members_view-insert_entry [] k v = refl
members_view-insert_entry (e ∷ es) k v = match_members (string_cmp k e.0) _ _ _ ∙ rw (members_view-insert_entry es k v) refl

-- the same, of a key with these bytes and a map with these entries
pub inserted_members : (es new : List Entry) (k : String Global) (v : Value) (key : List ℕ) → string_bytes k ≡ key
    → new ≡ insert_entry string_cmp es k v → members_view new ≡ with_member key (view v) (members_view es)
inserted_members es new k v key same is =
    ap members_view is ∙ members_view-insert_entry es k v ∙ ap (λ b. with_member b (view v) (members_view es)) same

name_byte_small : (b : ℕ) → IsNameByte b → b < 128
name_byte_small b h = grind (arith, nat_tests)

letters_small : (bytes : List ℕ) → AllByRecursion IsNameByte bytes → (i : ℕ) → get_or bytes i 0 < 128
letters_small [] h i = omega arith
letters_small (b ∷ bs) h zero = name_byte_small b h.0
letters_small (b ∷ bs) h (suc i) = letters_small bs h.1 i

-- a name is text
pub name_utf8 : (bytes : List ℕ) → IsName bytes → IsUtf8 bytes
name_utf8 bytes h = IsUtf8-from_ascii bytes (letters_small bytes h.letters)
