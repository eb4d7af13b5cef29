-- The full names of ports, by the keys of a set of them.
use Rattle.std.proofs.Common.{◌≡◌, ℕ, Bool, true, false, cond, ◌||◌, List, [], ◌∷◌, ◌++◌, map, refl, sym, ap, ◌∙◌}
use Rattle.std.specs.List.{list_any}
use Rattle.std.proofs.lemmas.List.{map-append}
use Rattle.std.specs.Str.{bytes_eq}
use Rattle.indexmap.specs.IndexSet.{insert_key}
use Rattle.name_tables.specs.Names.{is_among, with_name}
use Rattle.net_rules.specs.contracts.well_formed.ports.FullNamePartialEq.TheImpl.{eq-value}
use Rattle.net_rules.specs.declared.well_formed.ports.FullName.{FullName}
use Rattle.net_rules.proofs.Distinct.{among}

abbrev pub name_of_key : FullName → List ℕ
name_of_key key = key.domain ∷ key.name.now

abbrev pub names_of_keys : List FullName → List (List ℕ)
names_of_keys = map name_of_key

-- the test of the set is the sameness of the names
test_is : (a b : FullName) → eq-value.it a b ≡ bytes_eq (name_of_key a) (name_of_key b)
test_is a b = refl

-- a key is in the set where its name is among the names
pub known_is : (keys : List FullName) (key : FullName) → list_any (eq-value.it key) keys ≡ is_among (names_of_keys keys) (name_of_key key)
known_is [] key = refl
known_is (k ∷ keys) key =
    ap (λ b. b || list_any (eq-value.it key) keys) (test_is key k) ∙ (ap (λ b. bytes_eq (name_of_key key) (name_of_key k) || b) (known_is keys key)
    ∙ sym (among (name_of_key k) (names_of_keys keys) (name_of_key key)))

-- the names after a key is inserted
pub names_after : (keys : List FullName) (key : FullName) → names_of_keys (insert_key eq-value.it keys key) ≡ with_name (names_of_keys keys) (name_of_key key)
names_after keys key =
    at (list_any (eq-value.it key) keys) ∙ ap (λ b. cond b (names_of_keys keys) (names_of_keys keys ++ name_of_key key ∷ [])) (known_is keys key)
  where
    at : (b : Bool) → names_of_keys (cond b keys (keys ++ key ∷ [])) ≡ cond b (names_of_keys keys) (names_of_keys keys ++ name_of_key key ∷ [])
    at true = refl
    at false = map-append name_of_key keys (key ∷ [])
