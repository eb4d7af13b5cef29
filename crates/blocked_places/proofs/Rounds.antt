-- Cycles of bindings that count, and cycles of lists of references.
use Rattle.std.proofs.Common.{◌≡◌, ◌∙◌, ◌↔◌, sym, ap, refl, subst, ℕ, suc, ◌+◌, ◌-◌, ◌<◌}
use Rattle.std.proofs.Common.{arith, Bool, true, IsTrue, List, [], ◌∷◌, length, Some}
use Rattle.std.specs.Prelude.{slice_index}
use Rattle.std.specs.List.{AllByRecursion}
use Rattle.std.proofs.lemmas.Option.{slice_get_within}
use Rattle.chw_types.specs.declared.declarations.Data.{Data}
use Rattle.chw_types.specs.TypeTree.{TypeTree}
use Rattle.chw_terms.specs.declared.scene.Mode.{Mode}
use Rattle.chw_terms.specs.declared.term.Binding.{Binding}
use Rattle.chw_terms.specs.Occurs.{occurs}
use Rattle.chw_terms.specs.TermTree.{TermTree, size_of}
use Rattle.chw_terms.specs.TermView.{group_of}
use Rattle.graph_order.specs.Orders.{IsCycle}
use Rattle.graph_order.specs.References.{Refers, Leads, step, step_and, HasNoCycle}
use Rattle.chw_typing.specs.Groups.{binding_at}
use Rattle.normal_forms.specs.Blocked.{LeadsThrough}
use Rattle.normal_forms.specs.Values.{BindingRefers}
use Rattle.blocked_places.specs.Cycles.{Counts, CountsAt, IsCycleOf, AreCounted}
use Rattle.blocked_places.specs.Cycles.{AreNamedBy, AreReferences}
use Rattle.blocked_places.proofs.Related.{related_length, related_at, item_there}
use Rattle.blocked_places.proofs.Related.{is_listed, is_bound, size_listed}

-- steps through some nodes
through_all : (R B : ℕ → ℕ → Type 0) → ((x y : ℕ) → R x y → B x y)
    → (a : ℕ) (more : List ℕ) (c : ℕ) → LeadsThrough R a more c → LeadsThrough B a more c
through_all R B f a [] c l = f a c l
through_all R B f a (b ∷ more) c l = (f a b l.0, through_all R B f b more c l.1)

-- what holds wherever steps lead
targets : (R : ℕ → ℕ → Type 0) (P : ℕ → Type 0) → ((x y : ℕ) → R x y → P y)
    → (a : ℕ) (more : List ℕ) (c : ℕ) → LeadsThrough R a more c → AllByRecursion P (c ∷ more)
targets R P f a [] c l = (f a c l, tt)
targets R P f a (b ∷ more) c l =
    let rest = targets R P f b more c l.1 in (rest.0, (f a b l.0, rest.1))

leads_through : (B R : ℕ → ℕ → Type 0) (P : ℕ → Type 0) → ((x y : ℕ) → B x y → P y → R x y)
    → (a : ℕ) (more : List ℕ) (c : ℕ) → LeadsThrough B a more c → AllByRecursion P (c ∷ more)
    → Leads R a c
leads_through B R P f a [] c l h = step (f a c l h.0)
leads_through B R P f a (b ∷ more) c l h =
    step_and (f a b l.0 h.1.0) (leads_through B R P f b more c l.1 (h.0, h.1.1))

-- nodes of which each has a step to the next one
listed_through : (R : ℕ → ℕ → Type 0) (i : ℕ) (more : List ℕ) (c : ℕ)
    → ((k : ℕ) → suc k < length (i ∷ more) → R (slice_index (i ∷ more) k) (slice_index (i ∷ more) (suc k)))
    → ((k : ℕ) → suc k ≡ length (i ∷ more) → R (slice_index (i ∷ more) k) c)
    → LeadsThrough R i more c
listed_through R i [] c next closes = closes 0 refl
listed_through R i (j ∷ more) c next closes = (
  next 0 (omega arith),
  listed_through R j more c (λ k l. next (suc k) (omega (arith, l))) (λ k e. closes (suc k) (ap suc e)),
)

cycle_through : (lists : List (List ℕ)) (i : ℕ) (more : List ℕ) → IsCycle lists (i ∷ more)
    → LeadsThrough (Refers lists) i more i
cycle_through lists i more h =
    let nodes = i ∷ more in
    listed_through (Refers lists) i more i
    (λ k l.
    let next : k + 1 ≡ suc k = omega arith in
    subst (λ n. Refers lists (slice_index nodes k) (slice_index nodes n)) next (h.next k (omega (arith, l))))
    (λ k e. h.closes k (omega (arith, e)))

-- bindings that refer, and lists that name
binding_there : (bs : List Binding) (i : ℕ) → i < length bs
    → (b : TypeTree × TermTree) × (binding_at (group_of bs) i ≡ Some b)
binding_there bs i l =
    let it = item_there bs i l in ((it.0.ty, it.0.body), is_bound bs i it.0 it.1)

to_refers : (datas : List Data) (mode : Mode) (bs : List Binding) (flags : List Bool)
    (lists : List (List ℕ))
    → AreCounted datas mode bs flags → AreReferences (length bs) flags bs lists
    → (a b : ℕ) → BindingRefers (group_of bs) a b → CountsAt datas mode (group_of bs) b
    → Refers lists a b
to_refers datas mode bs flags lists counted refers a b h counts =
    let n = length bs in
    let size = size_listed bs in
    let own = is_listed bs a h.0 h.1 in
    let other = is_listed bs b counts.0 counts.1 in
    let most = related_length (λ (x : Binding) (flag : Bool). IsTrue flag ↔ Counts datas mode x.ty) bs flags counted in
    let count = related_length (λ (x : Binding) (list : List ℕ). AreNamedBy n flags x.body list) bs lists refers in
    let within = slice_get_within bs a own.item own.is in
    let item = item_there lists a (omega (arith, within, count)) in
    let named : AreNamedBy n flags own.item.body item.0 =
    related_at (λ (x : Binding) (list : List ℕ). AreNamedBy n flags x.body list) bs lists a own.item item.0 refers own.is item.1 in
    let less : b < n = omega (arith, h.2, size) in
    let flag = item_there flags b (omega (arith, less, most)) in
    let told : IsTrue flag.0 ↔ Counts datas mode other.item.ty =
    related_at (λ (x : Binding) (f : Bool). IsTrue f ↔ Counts datas mode x.ty) bs flags b other.item flag.0 counted other.is flag.1 in
    let is : flag.0 ≡ true = told.1 (subst (Counts datas mode) (sym other.type) counts.2) in
    let there : occurs own.item.body (n - 1 - b) ≡ true =
    ap (λ k. occurs own.item.body (k - 1 - b)) (sym size) ∙ ap (λ e. occurs e (size_of (group_of bs) - 1 - b)) own.side ∙ h.3 in
    record {
      names = item.0;
      are_names = item.1;
      is_named = (named b).1 (less, flag.1 ∙ ap (λ f. Some f) is, there);
      is_node = omega (arith, less, count);
    }

of_refers : (datas : List Data) (mode : Mode) (bs : List Binding) (flags : List Bool)
    (lists : List (List ℕ))
    → AreCounted datas mode bs flags → AreReferences (length bs) flags bs lists
    → (a b : ℕ) → Refers lists a b
    → BindingRefers (group_of bs) a b × CountsAt datas mode (group_of bs) b
of_refers datas mode bs flags lists counted refers a b h =
    let n = length bs in
    let size = size_listed bs in
    let count = related_length (λ (x : Binding) (list : List ℕ). AreNamedBy n flags x.body list) bs lists refers in
    let within = slice_get_within lists a h.names h.are_names in
    let own = item_there bs a (omega (arith, within, count)) in
    let named : AreNamedBy n flags own.0.body h.names =
    related_at (λ (x : Binding) (list : List ℕ). AreNamedBy n flags x.body list) bs lists a own.0 h.names refers own.1 h.are_names in
    let is = (named b).0 h.is_named in
    let other = item_there bs b is.0 in
    let told : IsTrue true ↔ Counts datas mode other.0.ty =
    related_at (λ (x : Binding) (f : Bool). IsTrue f ↔ Counts datas mode x.ty) bs flags b other.0 true counted other.1 is.1 in (
      (
        (own.0.ty, own.0.body),
        is_bound bs a own.0 own.1,
        omega (arith, is.0, size),
        ap (λ k. occurs own.0.body (k - 1 - b)) size ∙ is.2,
      ),
      ((other.0.ty, other.0.body), is_bound bs b other.0 other.1, told.0 refl),
    )

pub round_found : (datas : List Data) (mode : Mode) (bs : List Binding) (flags : List Bool)
    (lists : List (List ℕ)) (nodes : List ℕ)
    → AreCounted datas mode bs flags → AreReferences (length bs) flags bs lists
    → IsCycle lists nodes → IsCycleOf datas mode (group_of bs) nodes
round_found datas mode bs flags lists [] counted refers h = absurd (omega (arith, h.some))
round_found datas mode bs flags lists (i ∷ more) counted refers h =
    let g = group_of bs in
    let back = of_refers datas mode bs flags lists counted refers in
    let leads = cycle_through lists i more h in
    record {
      leads = through_all (Refers lists) (BindingRefers g) (λ x y r. (back x y r).0) i more i leads;
      counted = targets (Refers lists) (CountsAt datas mode g) (λ x y r. (back x y r).1) i more i leads;
    }

pub round_none : (datas : List Data) (mode : Mode) (bs : List Binding) (flags : List Bool)
    (lists : List (List ℕ))
    → AreCounted datas mode bs flags → AreReferences (length bs) flags bs lists
    → HasNoCycle (Refers lists)
    → (cycle : List ℕ) → IsCycleOf datas mode (group_of bs) cycle → ⊥
round_none datas mode bs flags lists counted refers none [] h = h.leads
round_none datas mode bs flags lists counted refers none (i ∷ more) h =
    let g = group_of bs in
    none i
    (leads_through (BindingRefers g) (Refers lists) (CountsAt datas mode g)
    (to_refers datas mode bs flags lists counted refers) i more i h.leads h.counted)
