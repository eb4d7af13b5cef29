-- Words declared one after the other.
use Rattle.std.proofs.Common.{◌≡◌, ℕ, ◌+◌, ◌<◌, ◌≤◌, Bool, true, false, not, List, [], ◌∷◌, ◌++◌, map, length, get_or, take, Option, refl, sym, ap, ◌∙◌, subst}
use Rattle.std.proofs.lemmas.List.{append_assoc, map-append, take_more, take_all}
use Rattle.chw_grammar.specs.declared.word.Word.{Word}
use Rattle.name_tables.specs.Names.{with_name}
use Rattle.chw_prims.specs.Names.{primitive_names}
use Rattle.chw_names.specs.Words.{when, with_keys, with_names, seconds_by, sooner, least_of, DeclaresBy}
use Rattle.chw_names.proofs.Earliest.{least_append}

with_keys_append : {K : Type 0} (with_key : List K → K → List K) (known ms ns : List K) → with_keys with_key known (ms ++ ns) ≡ with_keys with_key (with_keys with_key known ms) ns
with_keys_append with_key known [] ns = refl
with_keys_append with_key known (m ∷ ms) ns = with_keys_append with_key (with_key known m) ms ns

seconds_append : {K : Type 0} (is_known : List K → K → Bool) (with_key : List K → K → List K) (key : Word → K) (known : List K) (xs ys : List Word)
    → seconds_by is_known with_key key known (xs ++ ys) ≡ seconds_by is_known with_key key known xs ++ seconds_by is_known with_key key (with_keys with_key known (map key xs)) ys
seconds_append is_known with_key key known [] ys = refl
seconds_append is_known with_key key known (x ∷ xs) ys =
    let here = when (is_known known (key x)) x in
    let later = with_key known (key x) in
    ap (λ l. here ++ l) (seconds_append is_known with_key key later xs ys)
    ∙ sym (append_assoc here (seconds_by is_known with_key key later xs) (seconds_by is_known with_key key (with_keys with_key later (map key xs)) ys))

-- one item more, declared by its name
pub name_more : {X : Type 0} (f : X → List ℕ) (xs : List X) (i : ℕ) (d : X) (known : List (List ℕ)) {names more : List (List ℕ)} → i < length xs
    → names ≡ with_names known (map f (take i xs)) → more ≡ with_name names (f (get_or xs i d)) → more ≡ with_names known (map f (take (i + 1) xs))
name_more f xs i d known lt e h =
    h ∙ ap (λ ns. with_name ns (f (get_or xs i d))) e ∙ sym (with_keys_append with_name known (map f (take i xs)) (f (get_or xs i d) ∷ []))
    ∙ ap (with_names known) (sym (map-append f (take i xs) (get_or xs i d ∷ [])) ∙ ap (map f) (sym (take_more xs i d lt)))

-- the names of primitives are distinct
pub primitives_once : with_names [] primitive_names ≡ primitive_names
primitives_once = refl

pub declares_then : {K : Type 0} {is_known : List K → K → Bool} {with_key : List K → K → List K} {key : Word → K} {known between after : List K} {met mid last : Option Word} (xs ys : List Word)
    → DeclaresBy K is_known with_key key known between met mid xs → DeclaresBy K is_known with_key key between after mid last ys → DeclaresBy K is_known with_key key known after met last (xs ++ ys)
declares_then {is_known = is_known} {with_key = with_key} {key = key} {known = known} {met = met} {mid = mid} xs ys d e = record {
  keys = e.keys ∙ ap (λ ks. with_keys with_key ks (map key ys)) d.keys ∙ sym (with_keys_append with_key known (map key xs) (map key ys))
      ∙ ap (with_keys with_key known) (sym (map-append key xs ys));
  least = e.least ∙ ap (λ ks. least_of mid (seconds_by is_known with_key key ks ys)) d.keys
      ∙ ap (λ m. least_of m (seconds_by is_known with_key key (with_keys with_key known (map key xs)) ys)) d.least
      ∙ sym (least_append met (seconds_by is_known with_key key known xs) (seconds_by is_known with_key key (with_keys with_key known (map key xs)) ys))
      ∙ ap (least_of met) (sym (seconds_append is_known with_key key known xs ys));
}

-- a word whose key is new isn't met, and another one is
pub declares_new : {K : Type 0} (is_known : List K → K → Bool) (with_key : List K → K → List K) (key : Word → K) (known after : List K) (met : Option Word) (w : Word)
    → not (is_known known (key w)) ≡ true → after ≡ with_key known (key w) → DeclaresBy K is_known with_key key known after met met (w ∷ [])
declares_new is_known with_key key known after met w is keys = record { keys = keys; least = by (is_known known (key w)) is }
  where
    by : (b : Bool) → not b ≡ true → met ≡ least_of met (when b w ++ [])
    by false h = refl
    by true h = cc

pub declares_again : {K : Type 0} (is_known : List K → K → Bool) (with_key : List K → K → List K) (key : Word → K) (known after : List K) (met : Option Word) (w : Word)
    → not (is_known known (key w)) ≡ false → after ≡ with_key known (key w) → DeclaresBy K is_known with_key key known after met (sooner met w) (w ∷ [])
declares_again is_known with_key key known after met w is keys = record { keys = keys; least = by (is_known known (key w)) is }
  where
    by : (b : Bool) → not b ≡ false → sooner met w ≡ least_of met (when b w ++ [])
    by true h = refl
    by false h = cc

-- one word more
pub declares_word : {K : Type 0} {is_known : List K → K → Bool} {with_key : List K → K → List K} {key : Word → K} (words : List Word) (i : ℕ) (w : Word) {known between after : List K} {met mid last : Option Word}
    → i < length words → w ≡ get_or words i w → DeclaresBy K is_known with_key key known between met mid (take i words) → DeclaresBy K is_known with_key key between after mid last (w ∷ [])
    → DeclaresBy K is_known with_key key known after met last (take (i + 1) words)
declares_word {K = K} {is_known = is_known} {with_key = with_key} {key = key} words i w {known = known} {after = after} {met = met} {last = last} lt is d e =
    subst (DeclaresBy K is_known with_key key known after met last) (sym (take_more words i w lt ∙ ap (λ (v : Word). take i words ++ v ∷ []) (sym is))) (declares_then (take i words) (w ∷ []) d e)

-- all words
pub declares_words : {K : Type 0} {is_known : List K → K → Bool} {with_key : List K → K → List K} {key : Word → K} (words : List Word) (i : ℕ) {known after : List K} {met last : Option Word}
    → length words ≤ i → DeclaresBy K is_known with_key key known after met last (take i words) → DeclaresBy K is_known with_key key known after met last words
declares_words {K = K} {is_known = is_known} {with_key = with_key} {key = key} words i {known = known} {after = after} {met = met} {last = last} le d =
    subst (DeclaresBy K is_known with_key key known after met last) (take_all i words le) d
