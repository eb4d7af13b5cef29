-- What rules make of a letrec keeps types.
use Rattle.std.proofs.Common.{◌++◌, ◌-◌, ◌<◌, ◌∙◌, ◌∷◌, ◌≡◌, Bool, List, Some, [], ap, arith, false, length, reverse, subst, suc, sym, true, ℕ}
use Rattle.std.proofs.lemmas.List.{append-nil, length-reverse}
use Rattle.std.proofs.lemmas.Option.{slice_get_within}
use Rattle.std.specs.List.{slice_get}
use Rattle.chw_types.proofs.SameLaws.{same_self}
use Rattle.chw_types.specs.Kinds.{HasFunctions}
use Rattle.chw_types.specs.TypeMoves.{Renaming, raised}
use Rattle.chw_types.specs.TypeTree.{TypeTree}
use Rattle.chw_types.specs.declared.kind.Kind.{Kind}
use Rattle.type_laws.proofs.OneKind.{same_kind}
use Rattle.chw_terms.specs.Occurs.{occurs}
use Rattle.chw_terms.specs.TermMoves.{exchanged, in_place_of, lowered, rename, rename_group, shift, sub, sub_group}
use Rattle.chw_terms.specs.TermTree.{Group, TermTree, bind, letrec, size_of}
use Rattle.chw_terms.specs.declared.rule.Rule.{Rule}
use Rattle.chw_typing.proofs.Kinded.{bound_typed, type_kinded, typed_more}
use Rattle.chw_typing.proofs.Lists.{turned_onto}
use Rattle.chw_typing.proofs.Renamed.{bound_renamed, declared_length, declared_renamed, type_renamed}
use Rattle.chw_typing.proofs.TermsPut.{bound_put, declared_put, kind_same, term_put, typed_without}
use Rattle.chw_typing.specs.Laws.{PutsTerms, Renames}
use Rattle.chw_typing.specs.Programs.{IsSound}
use Rattle.chw_typing.specs.Scopes.{AreTermTypes, HasKind, Setting, declared, with_more}
use Rattle.chw_typing.specs.Typing.{AreBound, HasType, HasTypeUpTo, bound_and}
use Rattle.chw_typing.specs.Groups.{Reached, binding_at, from_body, from_side, joined}
use Rattle.chw_typing.proofs.Joined.{first_bound, join_bound, second_bound}
use Rattle.chw_typing.proofs.Lowered.{in_place_puts, lowered_typed}
use Rattle.chw_typing.proofs.Where.{renamed_where}
use Rattle.chw_typing.specs.TypedPartLaws.{RenamesWhere}
use Rattle.rewriting.specs.Origins.{Origins}
use Rattle.rewriting.specs.Spots.{Spot}
use Rattle.rewriting.specs.Lets.{MarksReached, OfLets, dead, flat_body, flat_side, inline, inlined, kept, side_joined}
use Rattle.rewriting.specs.Shapes.{closed_up, marked, shift_group}
use Rattle.rule_types.proofs.Bodies.{or_body_typed, renames_past, up_to}
use Rattle.rule_types.proofs.Groups.{closes, declared_marked, joined_scope, marked_bound, marked_reversed, marked_types, renames_exchanged, renames_raised}
use Rattle.rule_types.proofs.Projected.{reversed_at}
use Rattle.rule_types.proofs.Scrutinees.{LetTyped, bound_allowed, let_of_parts, let_parts}
use Rattle.rule_types.specs.Laws.{IsTypedPlace, KeepsType}

-- what the type of a first binding says
record FirstBound (s : Setting) (kinds : List Kind) (vars : List TypeTree) (k : Kind) (t : TypeTree) (e : TermTree) (g : Group) : Type 0 where
  pub kind : Kind
  pub has_kind : HasKind s kinds t kind
  pub allows : HasFunctions kind k
  pub has : HasTypeUpTo s kinds vars e t
  pub others : AreBound s kinds vars k g

first_of_bound : {s : Setting} {kinds : List Kind} {vars : List TypeTree} {k : Kind} {t : TypeTree} {e : TermTree} {g : Group} → AreBound s kinds vars k (bind t e g) → FirstBound s kinds vars k t e g
first_of_bound (bound_and {j = j} {u = u} l f d x b) = record { kind = j; has_kind = l; allows = f; has = record { type = u; has = d; same = x }; others = b }

-- a letrec that is a right side joins the letrec around it
side_scope : (front : Group) (t : TypeTree) (cs : Group) (x : TermTree) (back : Group) (vars : List TypeTree) → with_more (declared (side_joined front t cs x back)) vars ≡ reverse (t ∷ declared back) ++ (reverse (declared cs) ++ with_more (declared front) vars)
side_scope front t cs x back vars =
    let m = size_of cs in
    let n = suc (size_of back) in
    let swap = exchanged m n in
    let last = bind t (rename x swap) (shift_group back n m) in
    let last_types : declared last ≡ t ∷ declared back = ap (λ ts. t ∷ ts) (declared_renamed back (raised n m)) in
    joined_scope (shift_group front n m) (joined (rename_group cs swap) last) vars
    ∙ ap (λ ts. with_more (declared (joined (rename_group cs swap) last)) (with_more ts vars)) (declared_renamed front (raised n m))
    ∙ joined_scope (rename_group cs swap) last (with_more (declared front) vars)
    ∙ (λ i. with_more (last_types i) (with_more (declared_renamed cs swap i) (with_more (declared front) vars)))

side_joined_typed : {s : Setting} {kinds : List Kind} {vars : List TypeTree} {w : TypeTree} {e : TermTree} (front : Group) (t : TypeTree) (cs : Group) (x : TermTree) (back : Group) → HasType s kinds vars (letrec (joined front (bind t (letrec cs x) back)) e) w → HasType s kinds vars (letrec (side_joined front t cs x back) (shift e (suc (size_of back)) (size_of cs))) w
side_joined_typed {s} {kinds} {vars} {w} {e} front t cs x back d =
    let_of_parts (record { kind = k; has_kind = whole.has_kind; sides = sides; body = type_renamed whole.body (raised n m) there raising }) vars (sym (side_scope front t cs x back vars))
  where
    m : ℕ
    m = size_of cs

    n : ℕ
    n = suc (size_of back)

    outer : List TypeTree
    outer = with_more (declared front) vars

    inner : List TypeTree
    inner = reverse (t ∷ declared back)

    new : List TypeTree
    new = reverse (declared cs)

    there : List TypeTree
    there = inner ++ (new ++ outer)

    on_inner : length inner ≡ n
    on_inner = length-reverse (t ∷ declared back) ∙ ap suc (declared_length back)

    on_new : length new ≡ m
    on_new = length-reverse (declared cs) ∙ declared_length cs

    whole : LetTyped s kinds (inner ++ outer) (joined front (bind t (letrec cs x) back)) e w
    whole = subst (λ sc. LetTyped s kinds sc (joined front (bind t (letrec cs x) back)) e w) (joined_scope front (bind t (letrec cs x) back) vars) (let_parts d)

    k : Kind
    k = whole.kind

    side : FirstBound s kinds (inner ++ outer) k t (letrec cs x) back
    side = first_of_bound (second_bound front (bind t (letrec cs x) back) whole.sides)

    part : LetTyped s kinds (new ++ (inner ++ outer)) cs x side.has.type
    part = let_parts side.has.has

    raising : Renames (raised n m) (inner ++ outer) there
    raising = renames_raised inner new outer n m on_inner on_new

    exchanging : Renames (exchanged m n) (new ++ (inner ++ outer)) there
    exchanging = renames_exchanged inner new outer n m on_inner on_new

    allows : HasFunctions part.kind k
    allows = subst (λ j. HasFunctions j k) (same_kind side.has.same side.has_kind part.has_kind) side.allows

    sides : AreBound s kinds there k (side_joined front t cs x back)
    sides =
        join_bound (bound_renamed (first_bound front (bind t (letrec cs x) back) whole.sides) (raised n m) there raising)
        (join_bound (bound_allowed (bound_renamed part.sides (exchanged m n) there exchanging) k allows)
        (bound_and side.has_kind side.allows (type_renamed part.body (exchanged m n) there exchanging) side.has.same (bound_renamed side.others (raised n m) there raising)))

-- a letrec that is the body
body_joined_typed : {s : Setting} {kinds : List Kind} {vars : List TypeTree} {w : TypeTree} {g cs : Group} {x : TermTree} → HasType s kinds vars (letrec g (letrec cs x)) w → HasType s kinds vars (letrec (joined (shift_group g 0 (size_of cs)) cs) x) w
body_joined_typed {s} {kinds} {vars} {w} {g} {cs} d =
    let m = size_of cs in
    let whole = let_parts d in
    let part = let_parts whole.body in
    let outer = with_more (declared g) vars in
    let there = with_more (declared cs) outer in
    let same : whole.kind ≡ part.kind = same_kind (same_self w) whole.has_kind part.has_kind in
    let sides = bound_renamed whole.sides (raised 0 m) there (renames_past (declared cs) outer m (declared_length cs)) in
    let_of_parts
    (record { kind = part.kind; has_kind = part.has_kind; sides = join_bound (subst (λ k. AreBound s kinds there k (shift_group g 0 m)) same sides) part.sides; body = part.body })
    vars
    (ap (λ ts. with_more (declared cs) (with_more ts vars)) (sym (declared_renamed g (raised 0 m))) ∙ sym (joined_scope (shift_group g 0 m) cs vars))

-- bindings that aren't reached go
kept_typed : {s : Setting} {kinds : List Kind} {vars : List TypeTree} {w : TypeTree} {g : Group} {e : TermTree} (marks : List Bool) → MarksReached g e marks → HasType s kinds vars (letrec g e) w → HasType s kinds vars (kept marks g e) w
kept_typed {s} {kinds} {vars} {w} {g} {e} marks reached d =
    or_body_typed (rename_group (marked marks g) close)
    (let_of_parts (record { kind = whole.kind; has_kind = whole.has_kind; sides = marked_bound whole.sides marks close there side; body = renamed_where whole.body close there (reaches e (λ i l o. from_body l o)) }) vars scope)
  where
    close : Renaming
    close = closed_up (reverse marks)

    whole : LetTyped s kinds (with_more (declared g) vars) g e w
    whole = let_parts d

    there : List TypeTree
    there = marked_types (reverse marks) (reverse (declared g)) ++ vars

    many : length marks ≡ length (declared g)
    many = reached.each_one ∙ sym (declared_length g)

    scope : there ≡ with_more (declared (rename_group (marked marks g) close)) vars
    scope = ap (λ ts. ts ++ vars) (marked_reversed marks (declared g) many ∙ ap reverse (sym (declared_marked marks g) ∙ sym (declared_renamed (marked marks g) close)))

    -- what occurs in what is reached stays
    stays : (x : ℕ) → (x < size_of g → Reached g e (size_of g - 1 - x)) → slice_get (reverse marks) x ≡ Some false → ⊥
    stays x h gone =
        let inside : x < size_of g = omega (arith, slice_get_within (reverse marks) x false gone, length-reverse marks, reached.each_one) in
        let i = size_of g - 1 - x in
        let marked_there : slice_get marks i ≡ Some true = (reached.reached i (omega (arith, inside))).1 (h inside) in
        let turned : slice_get (reverse marks ++ []) x ≡ Some true = reversed_at marks [] i x true (omega (arith, inside, reached.each_one)) marked_there in
        let both : Some true ≡ Some false = sym turned ∙ ap (λ ms. slice_get ms x) (append-nil (reverse marks)) ∙ gone in
        absurd (cc)

    reaches : (b : TermTree) → ((i : ℕ) → i < size_of g → occurs b (size_of g - 1 - i) ≡ true → Reached g e i) → RenamesWhere (occurs b) close (with_more (declared g) vars) there
    reaches b h x u o f =
        closes (reverse marks) (reverse (declared g)) vars x u (length-reverse marks ∙ many ∙ sym (length-reverse (declared g)))
        (stays x (λ l. let back : size_of g - 1 - (size_of g - 1 - x) ≡ x = omega (arith, l) in h (size_of g - 1 - x) (omega (arith, l)) (ap (occurs b) back ∙ o))) f

    side : (i : ℕ) (b : TypeTree × TermTree) → binding_at g i ≡ Some b → slice_get marks i ≡ Some true → RenamesWhere (occurs b.1) close (with_more (declared g) vars) there
    side i b at m =
        let inside : i < size_of g = omega (arith, slice_get_within marks i true m, reached.each_one) in
        let from = (reached.reached i inside).0 m in
        reaches b.1 (λ j l o. from_side from at l o)

-- a binding is put for its name
inlined_typed : {s : Setting} {kinds : List Kind} {vars : List TypeTree} {w : TypeTree} {e : TermTree} (front : Group) (t : TypeTree) (x : TermTree) (back : Group) → IsSound s → AreTermTypes s kinds vars → occurs x (size_of back) ≡ false → HasType s kinds vars (letrec (joined front (bind t x back)) e) w → HasTypeUpTo s kinds vars (inlined front x back e) w
inlined_typed {s} {kinds} {vars} {w} {e} front t x back h vs absent d =
    record {
      type = body.type;
      has = or_body_typed others
          (let_of_parts (record { kind = whole.kind; has_kind = kind_same s kinds w body.type whole.kind whole.has_kind (type_kinded body.has h there_typed) body.same; sides = sides; body = body.has }) vars scope);
      same = body.same;
    }
  where
    outer : List TypeTree
    outer = with_more (declared front) vars

    inner : List TypeTree
    inner = reverse (declared back)

    there : List TypeTree
    there = inner ++ outer

    on_inner : length inner ≡ size_of back
    on_inner = length-reverse (declared back) ∙ declared_length back

    inside : with_more (declared (joined front (bind t x back))) vars ≡ inner ++ t ∷ outer
    inside = joined_scope front (bind t x back) vars ∙ turned_onto t (declared back) outer

    given_whole : LetTyped s kinds (with_more (declared (joined front (bind t x back))) vars) (joined front (bind t x back)) e w
    given_whole = let_parts d

    inside_typed : AreTermTypes s kinds (inner ++ t ∷ outer)
    inside_typed = subst (AreTermTypes s kinds) inside (typed_more s kinds (declared (joined front (bind t x back))) vars (bound_typed given_whole.sides) vs)

    there_typed : AreTermTypes s kinds there
    there_typed = typed_without s kinds inner outer t inside_typed

    whole : LetTyped s kinds (inner ++ t ∷ outer) (joined front (bind t x back)) e w
    whole = subst (λ sc. LetTyped s kinds sc (joined front (bind t x back)) e w) inside given_whole

    side : FirstBound s kinds (inner ++ t ∷ outer) whole.kind t x back
    side = first_of_bound (second_bound front (bind t x back) whole.sides)

    a : TermTree
    a = rename x (lowered (size_of back))

    low : HasType s kinds there a side.has.type
    low = subst (λ n. HasType s kinds there (rename x (lowered n)) side.has.type) on_inner
        (lowered_typed s kinds inner outer t x side.has.type (ap (occurs x) on_inner ∙ absent) side.has.has)

    puts : PutsTerms s kinds (in_place_of (size_of back) a) (inner ++ t ∷ outer) there
    puts = subst (λ n. PutsTerms s kinds (in_place_of n a) (inner ++ t ∷ outer) there) on_inner
        (in_place_puts s kinds inner outer t a (record { type = side.has.type; has = low; same = side.has.same }))

    body : HasTypeUpTo s kinds there (sub e (in_place_of (size_of back) a)) w
    body = term_put whole.body h inside_typed (in_place_of (size_of back) a) there there_typed puts

    others : Group
    others = sub_group (joined front back) (in_place_of (size_of back) a)

    sides : AreBound s kinds there whole.kind others
    sides = bound_put (join_bound (first_bound front (bind t x back) whole.sides) side.others) h inside_typed (in_place_of (size_of back) a) there there_typed puts

    scope : there ≡ with_more (declared others) vars
    scope = sym (joined_scope front back vars) ∙ ap (λ ts. with_more ts vars) (sym (declared_put (joined front back) (in_place_of (size_of back) a)))

pub lets_keep : (o : Origins) (at : Spot) → IsTypedPlace o at → {r : Rule} {e e' : TermTree} → OfLets o at r e e' → KeepsType o at e e'
lets_keep o at h (flat_side front u cs x back no_head no_let) t d = up_to (side_joined_typed front u cs x back d)
lets_keep o at h (flat_body no_head no_let) t d = up_to (body_joined_typed d)
lets_keep o at h (dead {marks = marks} no_head reached some) t d = up_to (kept_typed marks reached d)
lets_keep o at h (inline front u x back no_head unnamed absent stay) t d = inlined_typed front u x back h.sound h.vars absent d
