-- Lists gone through item by item.
use Rattle.std.proofs.Common.{◌≡◌, ℕ, ◌+◌, ◌<◌, ◌≤◌, Bool, List, [], ◌∷◌, ◌++◌, length, get_or, take, Option, refl, sym, ap, ◌∙◌, subst}
use Rattle.std.specs.List.{flat_map}
use Rattle.std.proofs.lemmas.Grind.{flat_map-append}
use Rattle.std.proofs.lemmas.List.{append-nil, take_all, take_more}
use Rattle.chw_grammar.specs.declared.word.Word.{Word}
use Rattle.chw_names.specs.Words.{Meets, DeclaresBy}
use Rattle.chw_names.proofs.Declaring.{declares_then}
use Rattle.chw_names.proofs.Earliest.{least_then}

-- one item more
pub one_more : {X : Type 0} (f : X → List Word) (xs : List X) (i : ℕ) (x : X) → i < length xs → x ≡ get_or xs i x
    → flat_map f (take (i + 1) xs) ≡ flat_map f (take i xs) ++ f x
one_more f xs i x lt is =
    ap (flat_map f) (take_more xs i x lt) ∙ flat_map-append f (take i xs) (get_or xs i x ∷ [])
    ∙ ap (λ l. flat_map f (take i xs) ++ l) (append-nil (f (get_or xs i x)) ∙ ap f (sym is))

-- all items
pub all_items : {X : Type 0} (f : X → List Word) (xs : List X) (i : ℕ) → length xs ≤ i → flat_map f (take i xs) ≡ flat_map f xs
all_items f xs i le = ap (flat_map f) (take_all i xs le)

-- words are met after others
pub meets_then : {met mid last : Option Word} (xs ys : List Word) → Meets met mid xs → Meets mid last ys → Meets met last (xs ++ ys)
meets_then {met = met} xs ys d e = record { least = least_then met xs ys d.least e.least }

pub meets_none : {met : Option Word} → Meets met met []
meets_none = record { least = refl }

pub meets_more : {X : Type 0} (f : X → List Word) (xs : List X) (i : ℕ) (x : X) {met mid last : Option Word} → i < length xs → x ≡ get_or xs i x
    → Meets met mid (flat_map f (take i xs)) → Meets mid last (f x) → Meets met last (flat_map f (take (i + 1) xs))
meets_more f xs i x {met = met} {last = last} lt is e h = subst (Meets met last) (sym (one_more f xs i x lt is)) (meets_then (flat_map f (take i xs)) (f x) e h)

pub meets_all : {X : Type 0} (f : X → List Word) (xs : List X) (i : ℕ) {met last : Option Word} → length xs ≤ i → Meets met last (flat_map f (take i xs)) → Meets met last (flat_map f xs)
meets_all f xs i {met = met} {last = last} le e = subst (Meets met last) (all_items f xs i le) e

pub declares_more : {K : Type 0} {is_known : List K → K → Bool} {with_key : List K → K → List K} {key : Word → K} {X : Type 0} (f : X → List Word) (xs : List X) (i : ℕ) (x : X)
    {known between after : List K} {met mid last : Option Word} → i < length xs → x ≡ get_or xs i x → DeclaresBy K is_known with_key key known between met mid (flat_map f (take i xs))
    → DeclaresBy K is_known with_key key between after mid last (f x) → DeclaresBy K is_known with_key key known after met last (flat_map f (take (i + 1) xs))
declares_more {K = K} {is_known = is_known} {with_key = with_key} {key = key} f xs i x {known = known} {after = after} {met = met} {last = last} lt is e h =
    subst (DeclaresBy K is_known with_key key known after met last) (sym (one_more f xs i x lt is)) (declares_then (flat_map f (take i xs)) (f x) e h)

pub declares_all : {K : Type 0} {is_known : List K → K → Bool} {with_key : List K → K → List K} {key : Word → K} {X : Type 0} (f : X → List Word) (xs : List X) (i : ℕ)
    {known after : List K} {met last : Option Word} → length xs ≤ i → DeclaresBy K is_known with_key key known after met last (flat_map f (take i xs))
    → DeclaresBy K is_known with_key key known after met last (flat_map f xs)
declares_all {K = K} {is_known = is_known} {with_key = with_key} {key = key} f xs i {known = known} {after = after} {met = met} {last = last} le e =
    subst (DeclaresBy K is_known with_key key known after met last) (all_items f xs i le) e
