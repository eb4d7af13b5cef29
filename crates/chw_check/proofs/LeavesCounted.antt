-- What the count of leaves keeps.
use Rattle.std.proofs.Common.{◌≡◌, ℕ, ◌+◌, ◌<◌, inl, inr, refl, ap, ◌∙◌, List, [], ◌∷◌, ◌++◌, length, length-append, arith}
use Rattle.chw_check.specs.Counting.{CountsOn, HasLeaves, HasMoreLeaves}
use Rattle.chw_types.specs.declared.declarations.Data.{Data}
use Rattle.type_ports.specs.declared.ports.Leaf.{Leaf}
use Rattle.chw_base.specs.declared.index.DomId.{DomId}
use Rattle.chw_types.specs.References.{HasNoCycle}
use Rattle.chw_types.specs.TypeTree.{TypeTree, domain, signal}
use Rattle.type_ports.specs.Ports.{leaf_of, IsNoPort}
use Rattle.type_ports.specs.Representable.{Representable}
use Rattle.type_ports.specs.PortsFound.{ProductOpened}
use Rattle.type_ports.proofs.LeavesFound.{Searching, search_begins, search_goes_on, search_fails, search_ends, search_shrinks}
use Rattle.chw_types.proofs.Weights.{all_whole}

pub single_counts : (datas : List Data) (t : TypeTree) (dom : DomId) (payload : TypeTree) (todo todo' : List TypeTree) → t ≡ signal (domain dom.number) payload → Representable datas payload → todo' ≡ todo → CountsOn datas t 1 todo todo'
single_counts datas t dom payload todo todo' is fits rest found =
    let leaf = leaf_of dom payload ∷ [] in
    (found ++ leaf, length-append found leaf, inl (record { dom = dom; payload = payload; is = is; fits = fits; found = refl }, rest))

pub fields_count : (datas : List Data) (t : TypeTree) (todo todo' : List TypeTree) → ProductOpened datas t todo todo' → CountsOn datas t 0 todo todo'
fields_count datas t todo todo' opened found = (found, omega arith, inr (opened, refl))

-- so many leaves are found, and these types are to be looked at
pub record Counted (datas : List Data) (t : TypeTree) (count : ℕ) (todo : List TypeTree) : Type 0 where
  pub found : List Leaf
  pub many : length found ≡ count
  pub search : Searching datas t found todo

pub count_begins : (datas : List Data) (t u : TypeTree) (todo : List TypeTree) → u ≡ t → todo ≡ u ∷ [] → Counted datas t 0 todo
count_begins datas t u todo is one = record { found = []; many = refl; search = search_begins datas t u [] todo is refl one }

pub count_goes_on : (datas : List Data) (t next : TypeTree) (count n : ℕ) (old new todo' : List TypeTree) → old ≡ new ++ next ∷ [] → CountsOn datas next n new todo' → Counted datas t count old → Counted datas t (count + n) todo'
count_goes_on datas t next count n old new todo' e looks c =
    let w = looks c.found in
    record { found = w.0; many = w.1 ∙ ap (λ k. k + n) c.many; search = search_goes_on datas t next c.found w.0 old new todo' e w.2 c.search }

pub count_shrinks : (datas : List Data) (order : HasNoCycle datas) (next : TypeTree) (n : ℕ) (old new todo' : List TypeTree) → old ≡ new ++ next ∷ [] → CountsOn datas next n new todo' → all_whole datas todo' < all_whole datas old
count_shrinks datas order next n old new todo' e looks = let w = looks [] in search_shrinks datas order next [] w.0 old new todo' e w.2

pub count_fails : (datas : List Data) (t next : TypeTree) (count most : ℕ) (old new : List TypeTree) → old ≡ new ++ next ∷ [] → IsNoPort datas next → Counted datas t count old → HasMoreLeaves datas t most
count_fails datas t next count most old new e none c n l h = search_fails datas t next c.found old new e none c.search h.leaves h.are

-- the leaves that are found are among all
pub counts_too_many : (datas : List Data) (t : TypeTree) (count most : ℕ) (todo : List TypeTree) → most < count → Counted datas t count todo → HasMoreLeaves datas t most
counts_too_many datas t count most todo more c n l h =
    let w = c.search.onward h.leaves h.are in
    let all : length h.leaves ≡ length c.found + length w.0 = ap length w.2 ∙ length-append c.found w.0 in
    absurd (omega (arith, all, c.many, h.count))

pub count_ends : (datas : List Data) (t : TypeTree) (count : ℕ) (todo : List TypeTree) → length todo ≡ 0 → Counted datas t count todo → HasLeaves datas t count
count_ends datas t count todo none c = record { leaves = c.found; are = search_ends datas t c.found todo none c.search; count = c.many }
