-- What doing tasks leads to.
use Rattle.std.proofs.Common.{◌≡◌, ◌∙◌, sym, ap, refl, subst, ℕ, zero, suc, ◌+◌, ◌-◌, ◌<◌, ◌≤◌, arith, Bool, true, false, List, [], ◌∷◌, ◌++◌, length, take, get_or, append_assoc, append-nil, Some}
use Rattle.std.specs.List.{slice_get}
use Rattle.std.proofs.lemmas.List.{reverse-append, take_more, map-append}
use Rattle.std.proofs.lemmas.Option.{none-some, same_Some}
use Rattle.chw_types.specs.declared.declarations.Data.{Data}
use Rattle.chw_terms.specs.declared.scene.Made.{Made}
use Rattle.net_built.specs.Modules.{holds, made_in, HasOutputs, already, without_outputs, behind_its_uses, AllVisited, none_visited, visited_and}
use Rattle.net_build.specs.Outputs.{IsOutputMark, AreOutputMarks}
use Rattle.net_build.specs.Marks.{AreBelow}
use Rattle.net_build.specs.Tasks.{in_turn, visits, Leads, Continues, TasksAreBelow, Opens}
use Rattle.net_build.specs.declared.order.Task.{Task}
use Rattle.net_build.specs.declared.order.Task.TheVariants.{Visit, Place}

-- a task that is put at the end is done next
pub next_task : (tasks : List Task) (t : Task) → in_turn (tasks ++ t ∷ []) ≡ t ∷ in_turn tasks
next_task tasks t = reverse-append tasks (t ∷ [])

-- one more visit
pub visits_grown : (uses : List ℕ) (i j m : ℕ) (before now all : List Task)
    → j ≡ i - 1 → 0 < i → i ≤ length uses → m ≡ get_or uses j m → now ≡ before ++ Visit m ∷ []
    → visits (take i uses) ++ in_turn before ≡ all → visits (take j uses) ++ in_turn now ≡ all
visits_grown uses i j m before now all at some l is grown so =
    let next : i ≡ j + 1 = omega (arith, at, some) in
    let one : take i uses ≡ take j uses ++ m ∷ [] =
    ap (λ k. take k uses) next ∙ take_more uses j m (omega (arith, next, l)) ∙ ap (λ k. take j uses ++ k ∷ []) (sym is) in
    let turn : in_turn now ≡ Visit m ∷ in_turn before = ap in_turn grown ∙ next_task before (Visit m) in
    ap (λ ts. visits (take j uses) ++ ts) turn
    ∙ sym (append_assoc (visits (take j uses)) (Visit m ∷ []) (in_turn before))
    ∙ ap (λ ts. ts ++ in_turn before) (sym (ap visits one ∙ map-append (λ k. Visit k) (take j uses) (m ∷ [])))
    ∙ so

-- visits of several, and then other tasks
pub lead_visits : (datas : List Data) (state : List Made) (us : List ℕ) (tasks : List Task) (order end : List ℕ)
    → Leads datas state (visits us ++ tasks) order end
    → (mid : List ℕ) × AllVisited datas state order us mid × Leads datas state tasks mid end
lead_visits datas state [] tasks order end leads = (order, none_visited, leads)
lead_visits datas state (u ∷ us) tasks order end leads =
    let rest = lead_visits datas state us tasks leads.0 end leads.2 in
    (rest.0, visited_and leads.1 rest.1, rest.2)

-- visits alone
pub visits_alone : (datas : List Data) (state : List Made) (us : List ℕ) (tasks : List Task) (order end : List ℕ)
    → tasks ≡ visits us → order ≡ [] → Leads datas state tasks order end → AllVisited datas state [] us end
visits_alone datas state us tasks order end are none leads =
    let all = subst (λ ts. Leads datas state ts order end) (are ∙ sym (append-nil (visits us))) leads in
    let done = lead_visits datas state us [] order end all in
    subst (λ k. AllVisited datas state [] us k) done.2 (subst (λ k. AllVisited datas state k us done.0) none done.1)

-- the made definition of a mark
pub marked_at : (datas : List Data) (state : List Made) (has : List Bool) (m : ℕ) (b : Bool)
    → AreOutputMarks datas state has → slice_get has m ≡ Some b
    → (it : Made) × (slice_get state m ≡ Some it) × IsOutputMark datas it b
marked_at datas [] [] m b marks is = absurd (none-some b is)
marked_at datas [] (c ∷ has) m b marks is = absurd marks
marked_at datas (it ∷ state) [] m b marks is = absurd marks
marked_at datas (it ∷ state) (c ∷ has) zero b marks is =
    (it, refl, subst (IsOutputMark datas it) (same_Some c b is) marks.0)
marked_at datas (it ∷ state) (c ∷ has) (suc m) b marks is = marked_at datas state has m b marks.1 is

-- one that is placed
pub visit_placed : (datas : List Data) (state : List Made) (m : ℕ) (tasks : List Task) (order : List ℕ)
    → holds order m ≡ true → Continues datas state (Visit m ∷ tasks) order tasks order
visit_placed datas state m tasks order is end leads = (order, already is, leads)

-- one without outputs
pub visit_empty : (datas : List Data) (state : List Made) (has : List Bool) (m : ℕ) (tasks : List Task) (order : List ℕ)
    → holds order m ≡ false → slice_get has m ≡ Some false → AreOutputMarks datas state has
    → Continues datas state (Visit m ∷ tasks) order tasks order
visit_empty datas state has m tasks order new none marks end leads =
    let of_it = marked_at datas state has m false marks none in
    (order, without_outputs new of_it.1 of_it.2, leads)

-- one that is opened
pub visit_opened : (datas : List Data) (state : List Made) (has : List Bool) (m : ℕ) (before after : List Task) (order : List ℕ)
    → holds order m ≡ false → slice_get has m ≡ Some true → Opens state m before after → AreOutputMarks datas state has
    → Continues datas state (Visit m ∷ before) order after order
visit_opened datas state has m before after order new some opens marks end leads =
    let of_it = marked_at datas state has m true marks some in
    let it : Made = opens.of.it in
    let same : of_it.0 ≡ it = same_Some of_it.0 it (sym of_it.1 ∙ opens.of.is) in
    let outputs : HasOutputs datas it (suc of_it.2.0) = subst (λ (it : Made). HasOutputs datas it (suc of_it.2.0)) same of_it.2.1 in
    let all = subst (λ ts. Leads datas state ts order end) (opens.are ∙ ap (λ us. visits us ++ Place m ∷ before) opens.of.are) leads in
    let done = lead_visits datas state (made_in it.body) (Place m ∷ before) order end all in
    (done.0 ++ m ∷ [], behind_its_uses new opens.of.is outputs done.1, done.2)

-- one that is put behind those that it uses
pub task_placed : (datas : List Data) (state : List Made) (m : ℕ) (tasks : List Task) (before after : List ℕ)
    → after ≡ before ++ m ∷ [] → Continues datas state (Place m ∷ tasks) before tasks after
task_placed datas state m tasks before after is end leads = subst (λ order. Leads datas state tasks order end) is leads

-- visits of made definitions that are there, and then other tasks
pub visits_below : (count : ℕ) (us : List ℕ) (tasks : List Task) → AreBelow count us → TasksAreBelow count tasks → TasksAreBelow count (visits us ++ tasks)
visits_below count [] tasks uses rest = rest
visits_below count (u ∷ us) tasks uses rest = (uses.0, visits_below count us tasks uses.1 rest)

-- the tasks behind one that is opened
pub opened_below : (state : List Made) (m : ℕ) (before after : List Task) → Opens state m before after → m < length state
    → TasksAreBelow (length state) before → TasksAreBelow (length state) after
opened_below state m before after opens l rest =
    subst (λ ts. TasksAreBelow (length state) ts) (sym opens.are) (visits_below (length state) opens.uses (Place m ∷ before) opens.of.below (l, rest))
