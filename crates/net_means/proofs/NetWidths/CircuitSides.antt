-- The cells of right sides of circuits, by what is known of their operands.
use Rattle.std.proofs.Common.{◌≡◌, ℕ, zero, suc, ◌+◌, ◌-◌, ◌≤◌, arith, Bool, List, [], ◌∷◌, ◌++◌, length, Some, refl, ap, ◌∙◌}
use Rattle.std.specs.List.{slice_get, AllByRecursion}
use Rattle.chw_base.specs.declared.index.ConId.{ConId}
use Rattle.chw_base.specs.declared.index.WireId.{WireId}
use Rattle.chw_types.specs.TypeTree.{TypeTree}
use Rattle.chw_prims.specs.declared.prim.Primitive.TheVariants.{Fmap, Ap, Pure, Register, BlockRam, UnsafeSynchronizer}
use Rattle.chw_terms.specs.declared.term.Pattern.TheVariants.{OfCon}
use Rattle.chw_terms.specs.TermTree.{TermTree, var, made, con, prim, case_of, no_alts, alt}
use Rattle.chw_typing.specs.HeadTypes.{PatternOf}
use Rattle.chw_layout.specs.Measured.{closed_value}
use Rattle.netlist.specs.declared.net.Cell.{Cell}
use Rattle.netlist.specs.declared.net.Cell.TheVariants.{Const, Reg, Use}
use Rattle.netlist.specs.declared.net.Module.{Module}
use Rattle.net_rules.specs.WellFormed.{WidthsAgree, HasFewWords}
use Rattle.net_built.specs.Circuits.{Ground, module_of, used, IsLifted, HaveParts, field_wires, CircuitCells, of_variable, of_synchronizer, of_pure, of_register, of_block_ram, of_mapped, of_lifted, of_call, of_product, of_projection}
use Rattle.net_built.specs.Memories.{HasBits, HasWords}
use Rattle.net_built.specs.Terms.{Variable, wires_at, wires_of, wires_of_all}
use Rattle.net_built.specs.Wires.{wire, new_wires, wire_count, present, Piece, one, copy_cells, copies}
use Rattle.net_built.specs.Words.{only}
use Rattle.net_means.specs.NetFits.Widths.{AreWide, StandFrom}
use Rattle.net_means.proofs.NetFits.SimpleSides.{copies_agree}
use Rattle.net_means.proofs.NetFits.WordWidths.{Agree, const_agrees, given_wide, one_agrees}
use Rattle.net_means.proofs.NetWidths.Keepers.{MemoryFits}
use Rattle.net_means.proofs.NetWidths.Kept.{Kept, used_all}
use Rattle.net_means.proofs.NetWidths.MemoryCells.{Few, memory_agrees, memory_few}
use Rattle.net_means.proofs.NetWidths.Small.{IsPart, one_small, parts_small, memory_small}

-- what is known of the operands, by the head
pub record SideFits (earlier : List Module) (all : List ℕ) (ground : Ground) (scope : List Variable) (n : ℕ) (widths : List ℕ) (h : TermTree) (ts : List TypeTree) (es : List TermTree) : Type 0 where
  pub parts : AllByRecursion IsPart widths
  pub of_name : (x : ℕ) → h ≡ var x → ts ≡ [] → es ≡ [] → AreWide all (wires_at scope x) (present widths)
  pub crossing : (x : TermTree) → h ≡ prim UnsafeSynchronizer → es ≡ x ∷ [] → AreWide all (wires_of scope x) (present widths)
  pub product : (c : ℕ) → h ≡ con c → AreWide all (wires_of_all scope es) (present widths)
  pub projection : (x count z : ℕ) (c : ConId) (it : Variable) (fields : List TypeTree) (parts : List (List ℕ)) → h ≡ case_of (var x) (alt (OfCon c count) (var z) no_alts) → ts ≡ [] → es ≡ [] → slice_get scope x ≡ Some it → PatternOf ground.datas it.ty (OfCon c count) fields → HaveParts ground.datas fields parts
      → AreWide all (field_wires (count - 1 - z) parts it.wires) (present widths)
  pub constant : (d a : TypeTree) (c : TermTree) (w : ℕ) (bits : List Bool) → h ≡ prim Pure → ts ≡ d ∷ a ∷ [] → es ≡ c ∷ [] → widths ≡ w ∷ [] → HasBits ground.datas a c bits → length bits ≡ w
  pub register : (d a : TypeTree) (c x : TermTree) (w : ℕ) (bits : List Bool) → h ≡ prim Register → ts ≡ d ∷ a ∷ [] → es ≡ c ∷ x ∷ [] → widths ≡ w ∷ [] → HasBits ground.datas a c bits → (length bits ≡ w) × AreWide all (wires_of scope x) (present (w ∷ []))
  pub ram : (d m k a : TypeTree) (c x y : TermTree) (w : ℕ) (words : List (List Bool)) → h ≡ prim BlockRam → ts ≡ d ∷ m ∷ k ∷ a ∷ [] → es ≡ c ∷ x ∷ y ∷ [] → widths ≡ w ∷ [] → HasWords ground.datas a c words → MemoryFits all (wires_of scope x) (wires_of scope y) k w words
  pub mapped : (m : ℕ) (x : TermTree) → h ≡ prim Fmap → es ≡ made m ∷ x ∷ [] → StandFrom all n (present widths) → 1 ≤ wire_count widths → WidthsAgree earlier all (Use (module_of ground m) (wires_of scope x) (new_wires n widths))
  pub lifted : (m : ℕ) (u x : TermTree) (xs : List TermTree) → h ≡ prim Ap → es ≡ u ∷ x ∷ [] → IsLifted m u xs → StandFrom all n (present widths) → 1 ≤ wire_count widths → WidthsAgree earlier all (Use (module_of ground m) (wires_of_all scope (xs ++ x ∷ [])) (new_wires n widths))
  pub called : (m : ℕ) → h ≡ made m → ts ≡ [] → StandFrom all n (present widths) → 1 ≤ wire_count widths → WidthsAgree earlier all (Use (module_of ground m) (wires_of_all scope es) (new_wires n widths))

-- what is said of the cells
pub record SideKept (earlier : List Module) (all : List ℕ) (p : Piece) : Type 0 where
  pub kept : Kept earlier all p
  pub few : Few p

copies_few : (n : ℕ) (wires : List WireId) → AllByRecursion HasFewWords (copy_cells n wires)
copies_few n [] = tt
copies_few n (a ∷ wires) = (tt, copies_few (n + 1) wires)

module _ (earlier : List Module) (all : List ℕ) where
  copies_kept : (n : ℕ) (wires : List WireId) (widths : List ℕ) → AllByRecursion IsPart widths → AreWide all wires (present widths) → StandFrom all n (present widths) → SideKept earlier all (copies n wires widths)
  copies_kept n wires widths parts h stand = record {
    kept = record { agree = record { cells = copies_agree earlier all n wires (present widths) h stand }; small = parts_small widths parts };
    few = record { cells = copies_few n wires };
  }

  one_kept : (n w : ℕ) (cell : Cell) → HasFewWords cell → IsPart w → StandFrom all n (present (w ∷ [])) → Agree earlier all (one w cell) → SideKept earlier all (one w cell)
  one_kept n zero cell few l stand agree = record { kept = record { agree = agree; small = one_small zero l }; few = record { cells = tt } }
  one_kept n (suc w) cell few l stand agree = record { kept = record { agree = agree; small = one_small (suc w) l }; few = record { cells = (few, tt) } }

  used_kept : (ground : Ground) (m n : ℕ) (reads : List WireId) (ws : List ℕ) → AllByRecursion IsPart ws → (1 ≤ wire_count ws → WidthsAgree earlier all (Use (module_of ground m) reads (new_wires n ws))) → SideKept earlier all (used ground m n reads ws)
  used_kept ground m n reads ws parts h = record {
    kept = record { agree = record { cells = used_all (WidthsAgree earlier all) ground m n reads ws h }; small = parts_small ws parts };
    few = record { cells = used_all HasFewWords ground m n reads ws (λ l. tt) };
  }

  pub circuit_kept : {ground : Ground} {scope : List Variable} {n : ℕ} {widths : List ℕ} {h : TermTree} {ts : List TypeTree} {es : List TermTree} {p : Piece} → CircuitCells ground scope n widths h ts es p → SideFits earlier all ground scope n widths h ts es → StandFrom all n p.widths → SideKept earlier all p
  circuit_kept {scope = scope} {n} {widths} (of_variable {x = x}) fits stand = copies_kept n (wires_at scope x) widths fits.parts (fits.of_name x refl refl refl) stand
  circuit_kept {scope = scope} {n} {widths} (of_synchronizer {x = x}) fits stand = copies_kept n (wires_of scope x) widths fits.parts (fits.crossing x refl refl) stand
  circuit_kept {n = n} (of_pure {w = w} {d = d} {a = a} {c = c} {bits = bits} b) fits stand =
      one_kept n w (Const (wire n) bits) tt fits.parts.0 stand (const_agrees earlier all n w bits (fits.constant d a c w bits refl refl refl refl b) stand)
  circuit_kept {scope = scope} {n} (of_register {w = w} {d = d} {a = a} {c = c} {x = x} {bits = bits} b) fits stand =
      let given = fits.register _ a c x w bits refl refl refl refl b in
      let cell : Cell = Reg (wire n) (record { number = d }) bits (only (wires_of scope x)) in
      one_kept n w cell tt fits.parts.0 stand
      (one_agrees earlier all n w cell stand (λ v e has.
      let size : suc v ≡ length bits = let l = given.0 in omega (arith, l, e) in
      (has ∙ ap (λ n. Some n) size, given_wide earlier all (wires_of scope x) w v e given.1 ∙ ap (λ n. Some n) size)))
  circuit_kept {scope = scope} {n} (of_block_ram {w = w} {d = d} {m = m} {k = k} {a = a} {c = c} {x = x} {y = y} {words = words} b) fits stand =
      let given = fits.ram _ m k a c x y w words refl refl refl refl b in
      let short = given.address in
      record {
        kept = record {
          agree = memory_agrees earlier all w (closed_value k) n (record { number = d }) words (wires_of scope x) (wires_of scope y) given.each given.reads given.writes stand;
          small = memory_small w (closed_value k) n (record { number = d }) words (wires_of scope x) (wires_of scope y) fits.parts.0 (omega (arith, short));
        };
        few = memory_few w (closed_value k) n (record { number = d }) words (wires_of scope x) (wires_of scope y) given.some given.most;
      }
  circuit_kept {ground} {scope} {n} {widths} (of_mapped {m = m} {x = x}) fits stand = used_kept ground m n (wires_of scope x) widths fits.parts (fits.mapped m x refl refl stand)
  circuit_kept {ground} {scope} {n} {widths} (of_lifted {m = m} {u = u} {x = x} {xs = xs} a) fits stand = used_kept ground m n (wires_of_all scope (xs ++ x ∷ [])) widths fits.parts (fits.lifted m u x xs refl refl a stand)
  circuit_kept {ground} {scope} {n} {widths} (of_call {m = m} {es = es}) fits stand = used_kept ground m n (wires_of_all scope es) widths fits.parts (fits.called m refl refl stand)
  circuit_kept {scope = scope} {n} {widths} (of_product {c = c} {es = es}) fits stand = copies_kept n (wires_of_all scope es) widths fits.parts (fits.product c refl) stand
  circuit_kept {scope = scope} {n} {widths} (of_projection {x = x} {count = count} {z = z} {c = c} {it = it} {fields = fields} parts i pattern have) fits stand =
      copies_kept n (field_wires (count - 1 - z) parts it.wires) widths fits.parts (fits.projection x count z c it fields parts refl refl refl i pattern have) stand
