-- What the walk gathers, part by part, and in all.
use Rattle.std.proofs.Common.{◌≡◌, ◌≢◌, ℕ, suc, ◌+◌, ◌-◌, ◌<◌, ◌≤◌, Bool, true, false, not, cond, ◌||◌, ◌==◌, nat_eq, if◌then◌else◌, List, [], ◌∷◌, ◌++◌, length, take, get_or, filter, ◌⊎◌, inl, inr, refl, sym, ap, ◌∙◌, arith, lt-ltb, le-ltb, eq-eqb, ne_eqb, append_assoc, append-nil}
use Rattle.std.specs.List.{list_any, flat_map}
use Rattle.std.proofs.lemmas.Bool.{cases_lt, cases_eq}
use Rattle.std.proofs.lemmas.Grind.{flat_map-append}
use Rattle.std.proofs.lemmas.List.{map-append, take_all, take_more}
use Rattle.std.proofs.lemmas.List.Folds.{list_any-append}
use Rattle.std.proofs.lemmas.List.Sums.{fold-append}
use Rattle.indexmap.specs.IndexSet.{insert_key, insert_all}
use Rattle.chw_base.specs.declared.index.VarIx.{VarIx}
use Rattle.chw_types.specs.TypeTree.{TypeTree}
use Rattle.chw_terms.specs.declared.term.Arg.{Arg}
use Rattle.chw_terms.specs.declared.term.Arg.TheVariants.{OfTerm, OfType}
use Rattle.chw_terms.specs.declared.term.Alt.{Alt}
use Rattle.chw_terms.specs.declared.term.Binding.{Binding}
use Rattle.chw_terms.specs.TermTree.{TermTree, lam, app, ty_app, letrec, case_of, Alts, size_of}
use Rattle.chw_terms.specs.TermView.{terms_of, group_of, alts_of, applied}
use Rattle.chw_terms.specs.FreeVariables.{outside, occurrences, occurrences_all, occurrences_group, occurrences_alts, firsts}
use Rattle.free_variables.specs.Gathered.{gathered, in_arg, in_alt, numbers_of}

-- variables outside of binders
inside : (n x : ℕ) (xs : List ℕ) → x < n → outside n (x ∷ xs) ≡ outside n xs
inside n x xs h = ap (λ b. if b then outside n xs else (x - n) ∷ outside n xs) (lt-ltb x n h)

beyond : (n x : ℕ) (xs : List ℕ) → n ≤ x → outside n (x ∷ xs) ≡ (x - n) ∷ outside n xs
beyond n x xs h = ap (λ b. if b then outside n xs else (x - n) ∷ outside n xs) (le-ltb x n h)

outside_both : (n : ℕ) (xs ys : List ℕ) → outside n (xs ++ ys) ≡ outside n xs ++ outside n ys
outside_both n [] ys = refl
outside_both n (x ∷ xs) ys = by (outside_both n xs ys) (cases_lt x n)
  where
    by : outside n (xs ++ ys) ≡ outside n xs ++ outside n ys → (x < n) ⊎ (n ≤ x) → outside n (x ∷ xs ++ ys) ≡ outside n (x ∷ xs) ++ outside n ys
    by e (inl h) = inside n x (xs ++ ys) h ∙ e ∙ ap (λ zs. zs ++ outside n ys) (sym (inside n x xs h))
    by e (inr h) = beyond n x (xs ++ ys) h ∙ ap (λ zs. (x - n) ∷ zs) e ∙ ap (λ zs. zs ++ outside n ys) (sym (beyond n x xs h))

outside_again : (n k : ℕ) (xs : List ℕ) → outside n (outside k xs) ≡ outside (n + k) xs
outside_again n k [] = refl
outside_again n k (x ∷ xs) = by (outside_again n k xs) (cases_lt x k)
  where
    more : outside n (outside k xs) ≡ outside (n + k) xs → k ≤ x → (x - k < n) ⊎ (n ≤ x - k) → outside n ((x - k) ∷ outside k xs) ≡ outside (n + k) (x ∷ xs)
    more again h (inl l) = inside n (x - k) (outside k xs) l ∙ again ∙ sym (inside (n + k) x xs (omega (arith, h, l)))
    more again h (inr l) =
        let e : x - k - n ≡ x - (n + k) = omega (arith, h, l) in
        beyond n (x - k) (outside k xs) l ∙ (λ i. e i ∷ again i) ∙ sym (beyond (n + k) x xs (omega (arith, h, l)))

    by : outside n (outside k xs) ≡ outside (n + k) xs → (x < k) ⊎ (k ≤ x) → outside n (outside k (x ∷ xs)) ≡ outside (n + k) (x ∷ xs)
    by again (inl h) = ap (outside n) (inside k x xs h) ∙ again ∙ sym (inside (n + k) x xs (omega (arith, h)))
    by again (inr h) = ap (outside n) (beyond k x xs h) ∙ more again h (cases_lt (x - k) n)

outside_none : (xs : List ℕ) → outside 0 xs ≡ xs
outside_none [] = refl
outside_none (x ∷ xs) = let e : x - 0 ≡ x = omega arith in beyond 0 x xs (omega arith) ∙ (λ i. e i ∷ outside_none xs i)

-- one part after the other
pub gathered_both : (n : ℕ) (xs ys seen : List ℕ) → gathered n ys (gathered n xs seen) ≡ gathered n (xs ++ ys) seen
gathered_both n xs ys seen = append_assoc seen (outside n xs) (outside n ys) ∙ ap (λ zs. seen ++ zs) (sym (outside_both n xs ys))

pub gathered_under : (n k : ℕ) (xs seen : List ℕ) → gathered (n + k) xs seen ≡ gathered n (outside k xs) seen
gathered_under n k xs seen = ap (λ zs. seen ++ zs) (sym (outside_again n k xs))

-- a loop over items, at one and behind all
one_more : {X : Type 0} (f : X → List ℕ) (xs : List X) (i : ℕ) (x : X) → i < length xs → x ≡ get_or xs i x → flat_map f (take (i + 1) xs) ≡ flat_map f (take i xs) ++ f x
one_more f xs i x h e =
    ap (flat_map f) (take_more xs i x h) ∙ flat_map-append f (take i xs) (get_or xs i x ∷ [])
    ∙ ap (λ l. flat_map f (take i xs) ++ l) (append-nil (f (get_or xs i x)) ∙ ap f (sym e))

pub gathered_next : {X : Type 0} (f : X → List ℕ) (xs : List X) (i : ℕ) (x : X) (n : ℕ) (seen now next : List ℕ) → i < length xs → x ≡ get_or xs i x
    → now ≡ gathered n (flat_map f (take i xs)) seen → next ≡ gathered n (f x) now → next ≡ gathered n (flat_map f (take (i + 1) xs)) seen
gathered_next f xs i x n seen now next h e a b =
    b ∙ ap (gathered n (f x)) a ∙ gathered_both n (flat_map f (take i xs)) (f x) seen ∙ ap (λ zs. gathered n zs seen) (sym (one_more f xs i x h e))

pub gathered_end : {X : Type 0} (f : X → List ℕ) (xs : List X) (i n : ℕ) (seen now : List ℕ) → length xs ≤ i → now ≡ gathered n (flat_map f (take i xs)) seen → now ≡ gathered n (flat_map f xs) seen
gathered_end f xs i n seen now h a = a ∙ ap (λ xs. gathered n (flat_map f xs) seen) (take_all i xs h)

-- the parts as lists
pub all_occurrences : (es : List TermTree) → flat_map occurrences es ≡ occurrences_all (terms_of es)
unfolding occurrences
all_occurrences [] = refl
all_occurrences (e ∷ es) = ap (λ xs. occurrences e ++ xs) (all_occurrences es)

pub group_occurrences : (bs : List Binding) → flat_map (λ b. occurrences b.body) bs ≡ occurrences_group (group_of bs)
unfolding occurrences
group_occurrences [] = refl
group_occurrences (b ∷ bs) = ap (λ xs. occurrences b.body ++ xs) (group_occurrences bs)

pub alts_occurrences : (alts : List Alt) → flat_map in_alt alts ≡ occurrences_alts (alts_of alts)
unfolding occurrences
alts_occurrences [] = refl
alts_occurrences (a ∷ alts) = ap (λ xs. in_alt a ++ xs) (alts_occurrences alts)

pub spine_occurrences : (e : TermTree) (args : List Arg) → occurrences e ++ flat_map in_arg args ≡ occurrences (applied e args)
unfolding occurrences
spine_occurrences e [] = append-nil (occurrences e)
spine_occurrences e (OfTerm a ∷ args) = sym (append_assoc (occurrences e) (occurrences a) (flat_map in_arg args)) ∙ spine_occurrences (app e a) args
spine_occurrences e (OfType t ∷ args) = spine_occurrences (ty_app e t) args

pub lam_occurrences : (t : TypeTree) (e : TermTree) → outside 1 (occurrences e) ≡ occurrences (lam t e)
unfolding occurrences
lam_occurrences t e = refl

pub letrec_occurrences : (bs : List Binding) (e : TermTree) → outside (length bs) (occurrences_group (group_of bs) ++ occurrences e) ≡ occurrences (letrec (group_of bs) e)
unfolding occurrences
letrec_occurrences bs e = ap (λ n. outside n (occurrences_group (group_of bs) ++ occurrences e)) (size bs)
  where
    size : (bs : List Binding) → length bs ≡ size_of (group_of bs)
    size [] = refl
    size (b ∷ bs) = ap suc (size bs)

pub case_occurrences : (s : TermTree) (alts : Alts) → occurrences s ++ occurrences_alts alts ≡ occurrences (case_of s alts)
unfolding occurrences
case_occurrences s alts = refl

-- each that wasn't seen goes last
abbrev pub is_new : List ℕ → ℕ → Bool
is_new seen y = not (list_any (nat_eq y) seen)

filter_yes : (p : ℕ → Bool) (y : ℕ) (ys : List ℕ) → p y ≡ true → filter p (y ∷ ys) ≡ y ∷ filter p ys
filter_yes p y ys h = ap (λ b. cond b (y ∷ filter p ys) (filter p ys)) h

filter_no : (p : ℕ → Bool) (y : ℕ) (ys : List ℕ) → p y ≡ false → filter p (y ∷ ys) ≡ filter p ys
filter_no p y ys h = ap (λ b. cond b (y ∷ filter p ys) (filter p ys)) h

abbrev pub but : ℕ → List ℕ → List ℕ
but x ys = filter (λ y. not (y == x)) ys

but_same : (x y : ℕ) (ys : List ℕ) → y ≡ x → but x (y ∷ ys) ≡ but x ys
but_same x y ys e = filter_no (λ y. not (y == x)) y ys (ap not (eq-eqb y x e))

but_other : (x y : ℕ) (ys : List ℕ) → y ≢ x → but x (y ∷ ys) ≡ y ∷ but x ys
but_other x y ys e = filter_yes (λ y. not (y == x)) y ys (ap not (ne_eqb y x e))

-- a number that was seen needn't be left out
seen_left : (seen : List ℕ) (x : ℕ) → list_any (nat_eq x) seen ≡ true → (ys : List ℕ) → filter (is_new seen) (but x ys) ≡ filter (is_new seen) ys
seen_left seen x h [] = refl
seen_left seen x h (y ∷ ys) = by (seen_left seen x h ys) (cases_eq y x)
  where
    kept : filter (is_new seen) (but x ys) ≡ filter (is_new seen) ys → (b : Bool) → is_new seen y ≡ b → filter (is_new seen) (y ∷ but x ys) ≡ filter (is_new seen) (y ∷ ys)
    kept rest true q = filter_yes (is_new seen) y (but x ys) q ∙ ap (λ zs. y ∷ zs) rest ∙ sym (filter_yes (is_new seen) y ys q)
    kept rest false q = filter_no (is_new seen) y (but x ys) q ∙ rest ∙ sym (filter_no (is_new seen) y ys q)

    by : filter (is_new seen) (but x ys) ≡ filter (is_new seen) ys → (y ≡ x) ⊎ (y ≢ x) → filter (is_new seen) (but x (y ∷ ys)) ≡ filter (is_new seen) (y ∷ ys)
    by rest (inl e) = ap (filter (is_new seen)) (but_same x y ys e) ∙ rest ∙ sym (filter_no (is_new seen) y ys (ap (λ z. is_new seen z) e ∙ ap not h))
    by rest (inr e) = ap (filter (is_new seen)) (but_other x y ys e) ∙ kept rest (is_new seen y) refl

-- a number that is seen now is left out
now_left : (seen : List ℕ) (x : ℕ) (ys : List ℕ) → filter (is_new (seen ++ x ∷ [])) ys ≡ filter (is_new seen) (but x ys)
now_left seen x [] = refl
now_left seen x (y ∷ ys) = by (now_left seen x ys) (cases_eq y x)
  where
    neither : (b : Bool) → (b || false) ≡ b
    neither true = refl
    neither false = refl

    found : (b : Bool) → (y == x) ≡ b → list_any (nat_eq y) (seen ++ x ∷ []) ≡ (list_any (nat_eq y) seen || b)
    found b h = list_any-append (nat_eq y) seen (x ∷ []) ∙ ap (λ c. list_any (nat_eq y) seen || (c || false)) h ∙ ap (λ c. list_any (nat_eq y) seen || c) (neither b)

    either : (b : Bool) → (b || true) ≡ true
    either true = refl
    either false = refl

    kept : filter (is_new (seen ++ x ∷ [])) ys ≡ filter (is_new seen) (but x ys) → (b : Bool) → is_new seen y ≡ b → is_new (seen ++ x ∷ []) y ≡ b → filter (is_new (seen ++ x ∷ [])) (y ∷ ys) ≡ filter (is_new seen) (y ∷ but x ys)
    kept rest true p q = filter_yes (is_new (seen ++ x ∷ [])) y ys q ∙ ap (λ zs. y ∷ zs) rest ∙ sym (filter_yes (is_new seen) y (but x ys) p)
    kept rest false p q = filter_no (is_new (seen ++ x ∷ [])) y ys q ∙ rest ∙ sym (filter_no (is_new seen) y (but x ys) p)

    by : filter (is_new (seen ++ x ∷ [])) ys ≡ filter (is_new seen) (but x ys) → (y ≡ x) ⊎ (y ≢ x) → filter (is_new (seen ++ x ∷ [])) (y ∷ ys) ≡ filter (is_new seen) (but x (y ∷ ys))
    by rest (inl e) =
        filter_no (is_new (seen ++ x ∷ [])) y ys (ap not (found true (eq-eqb y x e) ∙ either (list_any (nat_eq y) seen)))
        ∙ rest ∙ ap (filter (is_new seen)) (sym (but_same x y ys e))
    by rest (inr e) =
        kept rest (is_new seen y) refl (ap not (found false (ne_eqb y x e) ∙ neither (list_any (nat_eq y) seen)))
        ∙ ap (filter (is_new seen)) (sym (but_other x y ys e))

inserted : (xs seen : List ℕ) → insert_all nat_eq seen xs ≡ seen ++ filter (is_new seen) (firsts xs)
inserted [] seen = sym (append-nil seen)
inserted (x ∷ xs) seen = by (inserted xs) (list_any (nat_eq x) seen) refl
  where
    by : ((seen : List ℕ) → insert_all nat_eq seen xs ≡ seen ++ filter (is_new seen) (firsts xs)) → (b : Bool) → list_any (nat_eq x) seen ≡ b → insert_all nat_eq seen (x ∷ xs) ≡ seen ++ filter (is_new seen) (firsts (x ∷ xs))
    by rest true h =
        ap (λ b. insert_all nat_eq (if b then seen else seen ++ x ∷ []) xs) h
        ∙ rest seen
        ∙ ap (λ zs. seen ++ zs) (sym (seen_left seen x h (firsts xs)) ∙ sym (filter_no (is_new seen) x (but x (firsts xs)) (ap not h)))
    by rest false h =
        ap (λ b. insert_all nat_eq (if b then seen else seen ++ x ∷ []) xs) h
        ∙ rest (seen ++ x ∷ [])
        ∙ append_assoc seen (x ∷ []) (filter (is_new (seen ++ x ∷ [])) (firsts xs))
        ∙ ap (λ zs. seen ++ x ∷ zs) (now_left seen x (firsts xs))
        ∙ ap (λ zs. seen ++ zs) (sym (filter_yes (is_new seen) x (but x (firsts xs)) (ap not h)))

-- where nothing was seen before
none_seen : (ys : List ℕ) → filter (is_new []) ys ≡ ys
none_seen [] = refl
none_seen (y ∷ ys) = ap (λ zs. y ∷ zs) (none_seen ys)

-- a variable that is met
pub met_inside : (n x : ℕ) (seen : List ℕ) → x < n → gathered n (x ∷ []) seen ≡ seen
met_inside n x seen h = ap (λ zs. seen ++ zs) (inside n x [] h) ∙ append-nil seen

pub met_beyond : (n x : ℕ) (seen : List ℕ) → n ≤ x → gathered n (x ∷ []) seen ≡ seen ++ (x - n) ∷ []
met_beyond n x seen h = ap (λ zs. seen ++ zs) (beyond n x [] h)

-- under no binders all that is met is free
pub gathered_all : (e : TermTree) (seen : List ℕ) → gathered 0 (occurrences e) seen ≡ seen ++ occurrences e
gathered_all e seen = ap (λ zs. seen ++ zs) (outside_none (occurrences e))

-- those in a set are each where it is first
pub set_of_firsts : (xs seen : List ℕ) → seen ≡ [] → insert_all nat_eq seen xs ≡ firsts xs
set_of_firsts xs seen h = ap (λ s. insert_all nat_eq s xs) h ∙ inserted xs [] ∙ none_seen (firsts xs)

-- one more in the set
pub set_next : (vs : List VarIx) (seen now next : List ℕ) (i : ℕ) (v : VarIx) → i < length vs
    → now ≡ insert_all nat_eq seen (numbers_of (take i vs)) → next ≡ insert_key nat_eq now (get_or vs i v).number
    → next ≡ insert_all nat_eq seen (numbers_of (take (i + 1) vs))
set_next vs seen now next i v h a b =
    let x = get_or vs i v in
    b ∙ ap (λ s. insert_key nat_eq s x.number) a ∙ sym (fold-append (insert_key nat_eq) seen (numbers_of (take i vs)) (x.number ∷ []))
    ∙ ap (insert_all nat_eq seen)
    (sym (map-append (λ (y : VarIx). y.number) (take i vs) (x ∷ []))
    ∙ ap numbers_of (sym (take_more vs i v h)))
