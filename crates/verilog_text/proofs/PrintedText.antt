-- The printed text of a well formed net denotes the net.
use Rattle.std.proofs.Common.{◌≡◌, ℕ, zero, suc, ◌+◌, ◌≤◌, List, [], ◌∷◌, ◌++◌, length, map, take, Some, sym, refl, ap, ◌∙◌, subst, append_assoc, arith}
use Rattle.std.specs.Prelude.{slice_get}
use Rattle.std.specs.List.{concat, flat_map, AllByRecursion}
use Rattle.std.proofs.lemmas.List.{append-nil, length-append, map-append, take_at}
use Rattle.name_tables.specs.Names.{AreDistinct}
use Rattle.net_rules.specs.WellFormed.{WellFormed}
use Rattle.netlist.specs.declared.net.Module.{Module}
use Rattle.netlist.specs.declared.net.Net.{Net}
use Rattle.verilog_text.specs.Denotes.{DenoteModules, Denotes, DenotesModule}
use Rattle.verilog_text.specs.Grammar.{module_tokens}
use Rattle.verilog_text.specs.Names.{module_name, top_name}
use Rattle.verilog_text.specs.Source.{ModuleItem, Source, modules_of}
use Rattle.verilog_text.specs.Text.{inner_scope, net_text, numbered, text_of_module}
use Rattle.verilog_text.specs.VText.{AreCounted, VText}
use Rattle.verilog_text.proofs.Chunks.{Reads}
use Rattle.verilog_text.proofs.Numbered.{map_numbered, numbered_all, numbered_append}
use Rattle.verilog_text.proofs.PrintedFits.{all_from, few_modules, inner_fits, top_fits}
use Rattle.verilog_text.proofs.PrintedItems.{earlier_distinct}
use Rattle.verilog_text.proofs.PrintedModules.{ModuleFits, NetFits, net_reads}
use Rattle.verilog_text.proofs.PrintedNames.{BitLaws}
use Rattle.verilog_text.proofs.PrintedNet.{distinct_last, inner_denotes, top_denotes, top_inputs, top_outputs}
use Rattle.verilog_text.proofs.PrintedSource.{inner_item, numbered_as, top_item}

-- a list that has something has a last thing
split_last : {A : Type 0} (xs : List A) → 1 ≤ length xs → (front : List A) × (last : A) × (xs ≡ front ++ last ∷ [])
split_last [] some = absurd (omega arith)
split_last (x ∷ []) some = ([], x, refl)
split_last (x ∷ y ∷ xs) some =
    let later = split_last (y ∷ xs) (omega arith) in
    (x ∷ later.0, later.1, ap (λ l. x ∷ l) later.2)

found_in_front : {A : Type 0} (xs ys : List A) (k : ℕ) (x : A) → slice_get xs k ≡ Some x → slice_get (xs ++ ys) k ≡ Some x
found_in_front [] ys k x found = absurd (cc)
found_in_front (y ∷ xs) ys zero x found = found
found_in_front (y ∷ xs) ys (suc k) x found = found_in_front xs ys k x found

found_behind : {A : Type 0} (xs ys : List A) (x : A) → slice_get (xs ++ x ∷ ys) (length xs) ≡ Some x
found_behind [] ys x = refl
found_behind (y ∷ xs) ys x = found_behind xs ys x

not_top : (k : ℕ) → module_name k ≡ top_name → ⊥
not_top k same = heads 109 99 _ _ same (λ is. omega arith)
  where
    heads : (x y : ℕ) (xs ys : List ℕ) → x ∷ xs ≡ y ∷ ys → (x ≡ y → ⊥) → ⊥
    heads x y xs ys same other = other cc

module _ (laws : BitLaws) (net : Net) (well : WellFormed net) (counted : AreCounted net) (front : List Module) (top : Module) (is : net.modules ≡ front ++ top ∷ []) where
  count : length net.modules ≡ length front + 1
  count = ap length is ∙ length-append front (top ∷ [])

  abbrev source : Source
  source = record { earlier = numbered_as (inner_item net.ports) 0 front; last = top_item net.ports top }

  found_at : (done rest : List Module) (m : Module) → front ++ top ∷ [] ≡ done ++ m ∷ rest → slice_get net.modules (length done) ≡ Some m
  found_at done rest m same = ap (λ (l : List Module). slice_get l (length done)) (is ∙ same) ∙ found_behind done rest m

  front_of : (done rest : List Module) → front ++ top ∷ [] ≡ done ++ rest → take (length done) net.modules ≡ done
  front_of done rest same = ap (take (length done)) (is ∙ same) ∙ take_at done rest (length done) refl

  fits : NetFits laws net.ports front top
  fits =
      let few = few_modules laws net well counted in
      record {
        inner = all_from (λ (m : Module). ModuleFits laws (inner_scope net.ports m) m) front
            (λ k m found. inner_fits laws net well counted k m (ap (λ (l : List Module). slice_get l k) is ∙ found_in_front front (top ∷ []) k m found));
        last = top_fits laws net well counted (length front) top (found_at front [] top refl) (sym count);
        few = omega (arith, count);
      }

  reads : Reads (net_text net) (flat_map module_tokens (modules_of source))
  reads =
      subst (λ (l : List Module). Reads (concat (numbered (text_of_module net.ports (length l)) 0 l)) (flat_map module_tokens (modules_of source))) (sym is)
      (net_reads laws net.ports front top fits)

  denote_from : (done rest : List Module) → front ≡ done ++ rest
      → DenoteModules net.ports (numbered_as (inner_item net.ports) 0 done) (numbered_as (inner_item net.ports) (length done) rest ++ top_item net.ports top ∷ []) (rest ++ top ∷ [])
  denote_from done [] same =
      let whole : front ++ top ∷ [] ≡ done ++ top ∷ [] = ap (λ (l : List Module). l ++ top ∷ []) (same ∙ append-nil done) in
      let last : length done + 1 ≡ length net.modules = sym (count ∙ ap (λ (l : List Module). length l + 1) (same ∙ append-nil done)) in (
        subst (λ (l : List Module). DenotesModule net.ports (numbered_as (inner_item net.ports) 0 l) (top_item net.ports top) top) (front_of done (top ∷ []) whole)
            (top_denotes laws net well counted (length done) top (found_at done [] top whole) last),
        tt,
      )
  denote_from done (m ∷ rest) same =
      let whole : front ++ top ∷ [] ≡ done ++ m ∷ (rest ++ top ∷ []) = ap (λ (l : List Module). l ++ top ∷ []) same ∙ append_assoc done (m ∷ rest) (top ∷ []) in
      let next : front ≡ (done ++ m ∷ []) ++ rest = same ∙ sym (append_assoc done (m ∷ []) rest) in
      let place : length (done ++ m ∷ []) ≡ length done + 1 = length-append done (m ∷ []) in
      let zero_place : 0 + length done ≡ length done = omega arith in
      let earlier : numbered_as (inner_item net.ports) 0 (done ++ m ∷ []) ≡ numbered_as (inner_item net.ports) 0 done ++ inner_item net.ports (length done) m ∷ [] =
      numbered_append (inner_item net.ports) 0 done (m ∷ []) ∙ ap (λ (n : ℕ). numbered_as (inner_item net.ports) 0 done ++ inner_item net.ports n m ∷ []) zero_place in
      let later = denote_from (done ++ m ∷ []) rest next in (
        subst (λ (l : List Module). DenotesModule net.ports (numbered_as (inner_item net.ports) 0 l) (inner_item net.ports (length done) m) m) (front_of done (m ∷ (rest ++ top ∷ [])) whole)
            (inner_denotes laws net well counted (length done) m (found_at done (rest ++ top ∷ []) m whole) (length done)),
        subst (λ (l : List ModuleItem). DenoteModules net.ports l (numbered_as (inner_item net.ports) (length done + 1) rest ++ top_item net.ports top ∷ []) (rest ++ top ∷ [])) earlier
            (subst (λ (n : ℕ). DenoteModules net.ports (numbered_as (inner_item net.ports) 0 (done ++ m ∷ [])) (numbered_as (inner_item net.ports) n rest ++ top_item net.ports top ∷ []) (rest ++ top ∷ [])) place later),
      )

  names_distinct : AreDistinct (map (λ (m : ModuleItem). m.name) (modules_of source))
  names_distinct =
      let few = fits.few in
      let inner : List (List ℕ) = map (λ (m : ModuleItem). m.name) (numbered_as (inner_item net.ports) 0 front) in
      let names : inner ≡ numbered_as (λ k (m : Module). module_name k) 0 front = map_numbered (λ (m : ModuleItem). m.name) (inner_item net.ports) 0 front in
      subst AreDistinct (sym (map-append (λ (m : ModuleItem). m.name) (numbered_as (inner_item net.ports) 0 front) (top_item net.ports top ∷ [])))
      (distinct_last inner top_name (earlier_distinct net.ports front few)
      (subst (AllByRecursion (λ (n : List ℕ). n ≡ top_name → ⊥)) (sym names)
      (numbered_all (λ (n : List ℕ). n ≡ top_name → ⊥) (λ k (m : Module). module_name k) (0 + length front) 0 front (omega arith) (λ k m from to. not_top k))))

  denotes : Denotes source net
  denotes = record {
    last = refl;
    names = names_distinct;
    inputs = top_inputs laws net well counted (length front) top (found_at front [] top refl) (sym count);
    outputs = top_outputs laws net well counted (length front) top (found_at front [] top refl) (sym count);
    modules = subst (DenoteModules net.ports [] (modules_of source)) (sym is) (denote_from [] front refl);
  }

  pub split_text : VText (net_text net) net
  split_text = record {
    tokens = reads.placed_at 0;
    source = source;
    splits = reads.splits 0;
    reads = reads.tokens_are 0;
    denotes = denotes;
    well_formed = well;
  }

pub printed_text : BitLaws → (net : Net) → WellFormed net → AreCounted net → VText (net_text net) net
printed_text laws net well counted =
    let last = split_last net.modules well.some in
    split_text laws net well counted last.0 last.1 last.2
