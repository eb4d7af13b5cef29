-- One token after the other.
use Rattle.std.specs.Prelude.{◌≡◌, suc, Result, Ok, Err, IfOk, Bool, true, false, IsTrue, List, [], ◌∷◌, ◌++◌, refl}
use Rattle.std.proofs.Common.{sym, ◌∙◌, subst}
use Rattle.std.proofs.lemmas.List.{append_assoc, append-nil}
use Rattle.chw_base.specs.declared.outcome.NoMemory.{NoMemory}
use Rattle.chw_grammar.specs.declared.type_tree.KindTree.{KindTree}
use Rattle.chw_grammar.specs.declared.terminal.Terminal.{Terminal}
use Rattle.chw_grammar.specs.declared.terminal.Terminal.TheVariants as the
use Rattle.chw_grammar.specs.declared.word.Word.{Word as WordTree}
use Rattle.chw_grammar.specs.declared.program.Tree.{Tree}
use Rattle.chw_grammar.specs.Lexemes.{Lexeme, terminal, kind_terminal, word_of}
use Rattle.chw_grammar.specs.Grammar.{Reads}
use Rattle.parser_parts.specs.declared.parts.Parts.{Parts}
use Rattle.parser_parts.specs.declared.value.Value.{Value}
use Rattle.parser_parts.specs.declared.value.Value.TheVariants.{OneWord, OneKind, Whole}
use Rattle.parser_parts.specs.Parts.{Stands}
use Rattle.chw_parser.specs.declared.symbol.Symbol.{Symbol}
use Rattle.chw_parser.specs.declared.symbol.Symbol.TheVariants.{Token, Word, Kind, Reset, Part, Act}
use Rattle.chw_parser.specs.declared.symbol.WordSort.{WordSort}
use Rattle.chw_parser.specs.declared.machine.Wanted.{Wanted}
use Rattle.chw_parser.specs.declared.machine.Wanted.TheVariants.{Take, Nothing, Refused}
use Rattle.chw_parser.specs.Faults.{BeginsProgram}
use Rattle.chw_parser.specs.Machine.{is_word, IsReset, Runs, all_read, token, word, kind, reset, Reading, end, on_token, on_word, on_kind, on_reset}
use Rattle.chw_parser.specs.State.{start, IsLeaf, Goes, Ahead, Refuses, IsWanted, IsTaken, Behind, IsRead, IsState}
use Rattle.chw_parser.proofs.Back.{tree_found}
use Rattle.chw_parser.proofs.Completes.{completes}
use Rattle.chw_parser.proofs.Once.{same_kind}
use Rattle.chw_parser.proofs.ReadPrograms.{tree_runs}

-- a token is taken by the symbol on top

token_runs : {x : Terminal} {s : List Symbol} {l : Lexeme} {more : List Lexeme} {vs out : List Value} → Runs (Token x ∷ s) (l ∷ more) vs out → Runs s more vs out
token_runs (token e r) = r

token_is : {x : Terminal} {s : List Symbol} {l : Lexeme} {more : List Lexeme} {vs out : List Value} → Runs (Token x ∷ s) (l ∷ more) vs out → terminal l ≡ x
token_is (token e r) = e

word_runs : {x : WordSort} {s : List Symbol} {l : Lexeme} {more : List Lexeme} {vs out : List Value}
    → Runs (Word x ∷ s) (l ∷ more) vs out → Runs s more (OneWord (word_of l) ∷ vs) out
word_runs (word e r) = r

word_is : {x : WordSort} {s : List Symbol} {l : Lexeme} {more : List Lexeme} {vs out : List Value}
    → Runs (Word x ∷ s) (l ∷ more) vs out → IsTrue (is_word x (terminal l))
word_is (word e r) = e

kind_runs : (k : KindTree) {s : List Symbol} {l : Lexeme} {more : List Lexeme} {vs out : List Value}
    → Runs (Kind ∷ s) (l ∷ more) vs out → terminal l ≡ kind_terminal k → Runs s more (OneKind k ∷ vs) out
kind_runs k {s = s} {more = more} {vs = vs} {out = out} (kind j e r) h =
    subst (λ (z : KindTree). Runs s more (OneKind z ∷ vs) out) (same_kind j k (sym e ∙ h)) r

kind_is : {s : List Symbol} {l : Lexeme} {more : List Lexeme} {vs out : List Value}
    → Runs (Kind ∷ s) (l ∷ more) vs out → (k : KindTree) × (terminal l ≡ kind_terminal k)
kind_is (kind j e r) = (j, e)

reset_runs : {s : List Symbol} {l : Lexeme} {more : List Lexeme} {vs out : List Value} → Runs (Reset ∷ s) (l ∷ more) vs out → Runs s more vs out
reset_runs (reset e r) = r

reset_is : {s : List Symbol} {l : Lexeme} {more : List Lexeme} {vs out : List Value} → Runs (Reset ∷ s) (l ∷ more) vs out → IsReset (terminal l) (word_of l)
reset_is (reset e r) = e

stands_along : {p q : Parts} {vs : List Value} → q ≡ p → Stands p vs → Stands q vs
stands_along {vs = vs} e st = subst (λ (z : Parts). Stands z vs) (sym e) st

pub taken_read : (l : Lexeme) (y : Symbol) (s t : List Symbol) (p1 p2 p3 : Parts) (b : Bool) → IsLeaf y
    → Ahead (terminal l) s p1 (y ∷ t) p2 → IsTaken y (terminal l) (word_of l) p2 p3 b → IsRead l s p1 t p3 b
taken_read l (Token x) s t p1 p2 p3 true i a h = record {
  runs = λ more out g. let k = a.runs (l ∷ more) out refl g in record { before = k.before; stands = stands_along h.1 k.stands; runs = token_runs k.runs };
  reads = λ more n r. a.reads (l ∷ more) (suc n) refl (on_token h.0 r);
  fine = λ f. let g = a.fine f in g.1;
}
taken_read l (Token x) s t p1 p2 p3 false i a h = λ more out g. h (token_is (a.runs (l ∷ more) out refl g).runs)
taken_read l (Word x) s t p1 p2 p3 true i a h = record {
  runs = λ more out g. let k = a.runs (l ∷ more) out refl g in
      record { before = OneWord (word_of l) ∷ k.before; stands = h.1 k.before k.stands; runs = word_runs k.runs };
  reads = λ more n r. a.reads (l ∷ more) (suc n) refl (on_word h.0 r);
  fine = λ f. a.fine f;
}
taken_read l (Word x) s t p1 p2 p3 false i a h = λ more out g. let yes = word_is (a.runs (l ∷ more) out refl g).runs in cc
taken_read l Kind s t p1 p2 p3 true i a h = record {
  runs = λ more out g. let k = a.runs (l ∷ more) out refl g in
      record { before = OneKind h.0 ∷ k.before; stands = h.2 k.before k.stands; runs = kind_runs h.0 k.runs h.1 };
  reads = λ more n r. a.reads (l ∷ more) (suc n) refl (on_kind h.0 h.1 r);
  fine = λ f. a.fine f;
}
taken_read l Kind s t p1 p2 p3 false i a h = λ more out g. let k = kind_is (a.runs (l ∷ more) out refl g).runs in h k.0 k.1
taken_read l Reset s t p1 p2 p3 true i a h = record {
  runs = λ more out g. let k = a.runs (l ∷ more) out refl g in record { before = k.before; stands = stands_along h.1 k.stands; runs = reset_runs k.runs };
  reads = λ more n r. a.reads (l ∷ more) (suc n) refl (on_reset h.0 r);
  fine = λ f. a.fine f;
}
taken_read l Reset s t p1 p2 p3 false i a h = λ more out g. h (reset_is (a.runs (l ∷ more) out refl g).runs)
taken_read l (Part x) s t p1 p2 p3 b i a h = absurd i
taken_read l (Act x) s t p1 p2 p3 b i a h = absurd i

-- where everything was read, no token follows

no_more : {l : Lexeme} {more : List Lexeme} {vs out : List Value} → Runs [] (l ∷ more) vs out → ⊥
no_more r = elim r [ ]

pub nothing_read : (l : Lexeme) (s : List Symbol) (p p' : Parts) → Ahead (terminal l) s p [] p'
    → (more : List Lexeme) (out : List Value) → Goes s (l ∷ more) p out → ⊥
nothing_read l s p p' a more out g = no_more (a.runs (l ∷ more) out refl g).runs

pub refused_read : (l : Lexeme) (s : List Symbol) (p : Parts) → Refuses (terminal l) s p
    → (more : List Lexeme) (out : List Value) → Goes s (l ∷ more) p out → ⊥
refused_read l s p h more out g = h (l ∷ more) out refl g

-- states

pub state_start : (p : Parts) → Stands p [] → IsState [] start p
state_start p st = record {
  runs = λ more tree r. record { before = []; stands = st; runs = tree_runs more tree r };
  reads = λ more n r. (n, r);
  fine = (refl, tt);
}

pub state_behind : (front : List Lexeme) (l : Lexeme) (s t : List Symbol) (p p' : Parts)
    → IsState front s p → Behind l s p t p' → IsState (front ++ l ∷ []) t p'
state_behind front l s t p p' st b = record {
  runs = λ more tree r. b.runs more (Whole tree ∷ []) (st.runs (l ∷ more) tree (subst (λ (z : List Lexeme). Reads z tree) (append_assoc front (l ∷ []) more) r));
  reads = λ more n r. let one = b.reads more n r in let two = st.reads (l ∷ more) one.0 one.1 in
      (two.0, subst (λ (z : List Lexeme). Reading two.0 start z) (sym (append_assoc front (l ∷ []) more)) two.1);
  fine = b.fine st.fine;
}

pub state_begins : (front : List Lexeme) (s : List Symbol) (p : Parts) → IsState front s p → BeginsProgram front
state_begins front s p st =
    let c = completes s st.fine in
    let one = st.reads c.tokens c.steps c.reading in
    let found = tree_found one.0 (front ++ c.tokens) one.1 in
    (c.tokens, found.0, found.1)

pub state_wrong : (front : List Lexeme) (l : Lexeme) (s : List Symbol) (p : Parts) → IsState front s p
    → ((more : List Lexeme) (out : List Value) → Goes s (l ∷ more) p out → ⊥)
    → (more : List Lexeme) (tree : Tree) → Reads (front ++ l ∷ more) tree → ⊥
state_wrong front l s p st h more tree r = h more (Whole tree ∷ []) (st.runs (l ∷ more) tree r)

-- the end

leaf_wants : {y : Symbol} {t : List Symbol} {us out : List Value} → IsLeaf y → Runs (y ∷ t) [] us out → ⊥
leaf_wants {y = Token x} i r = elim r [ ]
leaf_wants {y = Word x} i r = elim r [ ]
leaf_wants {y = Kind} i r = elim r [ ]
leaf_wants {y = Reset} i r = elim r [ ]
leaf_wants {y = Part x} i r = absurd i
leaf_wants {y = Act x} i r = absurd i

all_is : {us out : List Value} → Runs [] [] us out → us ≡ out
all_is all_read = refl

all_stand : {p : Parts} {out : List Value} → Goes [] [] p out → Stands p out
all_stand {p = p} g = subst (λ (z : List Value). Stands p z) (all_is g.runs) g.stands

goes_at_end : (front : List Lexeme) (s : List Symbol) (p : Parts) → IsState front s p → (tree : Tree) → Reads front tree → Goes s [] p (Whole tree ∷ [])
goes_at_end front s p st tree r = st.runs [] tree (subst (λ (z : List Lexeme). Reads z tree) (sym (append-nil front)) r)

pub end_wrong : (front : List Lexeme) (y : Symbol) (s t : List Symbol) (p p' : Parts) → IsState front s p → IsLeaf y
    → Ahead the.End s p (y ∷ t) p' → (tree : Tree) → Reads front tree → ⊥
end_wrong front y s t p p' st i a tree r = leaf_wants i (a.runs [] (Whole tree ∷ []) refl (goes_at_end front s p st tree r)).runs

pub end_refused : (front : List Lexeme) (s : List Symbol) (p : Parts) → IsState front s p → Refuses the.End s p
    → (tree : Tree) → Reads front tree → ⊥
end_refused front s p st h tree r = h [] (Whole tree ∷ []) refl (goes_at_end front s p st tree r)

pub end_tree : (front : List Lexeme) (s : List Symbol) (p p' : Parts) → IsState front s p → Ahead the.End s p [] p'
    → (tree : Tree) × Reads front tree × Stands p' (Whole tree ∷ [])
end_tree front s p p' st a =
    let one = a.reads [] 0 refl end in
    let two = st.reads [] one.0 one.1 in
    let found = tree_found two.0 (front ++ []) two.1 in
    let r = subst (λ (z : List Lexeme). Reads z found.0) (append-nil front) found.1 in
    (found.0, r, all_stand (a.runs [] (Whole found.0 ∷ []) refl (goes_at_end front s p st found.0 r)))

-- what is wanted, with the answers of the calls as they are known

pub wanted_take : {x : Terminal} {s t : List Symbol} {p p2 : Parts} {w : Wanted} {y : Symbol}
    → IsWanted x s p t p2 w → w ≡ Take y → IsLeaf y × Ahead x s p (y ∷ t) p2
wanted_take {x = x} {s = s} {t = t} {p = p} {p2 = p2} h e = subst (λ (z : Wanted). IsWanted x s p t p2 z) e h

pub wanted_nothing : (t : List Symbol) {x : Terminal} {s : List Symbol} {p p2 : Parts} {w : Wanted}
    → IsWanted x s p t p2 w → w ≡ Nothing → Ahead x s p [] p2
wanted_nothing t {x = x} {s = s} {p = p} {p2 = p2} h e = subst (λ (z : Wanted). IsWanted x s p t p2 z) e h

pub wanted_refused : (t : List Symbol) (p2 : Parts) {x : Terminal} {s : List Symbol} {p : Parts} {w : Wanted}
    → IsWanted x s p t p2 w → w ≡ Refused → Refuses x s p
wanted_refused t p2 {x = x} {s = s} {p = p} h e = subst (λ (z : Wanted). IsWanted x s p t p2 z) e h

pub read_take : (l : Lexeme) (x : Terminal) (s t : List Symbol) (p p2 p3 : Parts) (w : Wanted) (y : Symbol) (v : WordTree) (r : Result Bool NoMemory)
    → x ≡ terminal l → v ≡ word_of l → IsWanted x s p t p2 w → w ≡ Take y → IfOk r (IsTaken y x v p2 p3) → IfOk r (IsRead l s p t p3)
read_take l x s t p p2 p3 w y v (Ok b) e f h g k =
    let two = wanted_take h g in
    let a = subst (λ (z : Terminal). Ahead z s p (y ∷ t) p2) e two.1 in
    let one = subst (λ (z : Terminal). IsTaken y z v p2 p3 b) e k in
    taken_read l y s t p p2 p3 b two.0 a (subst (λ (z : WordTree). IsTaken y (terminal l) z p2 p3 b) f one)
read_take l x s t p p2 p3 w y v (Err n) e f h g k = tt

pub read_nothing : (l : Lexeme) (x : Terminal) (s t : List Symbol) (p p2 : Parts) (w : Wanted) → x ≡ terminal l
    → IsWanted x s p t p2 w → w ≡ Nothing → IsRead l s p t p2 false
read_nothing l x s t p p2 w e h g = nothing_read l s p p2 (subst (λ (z : Terminal). Ahead z s p [] p2) e (wanted_nothing t h g))

pub read_refused : (l : Lexeme) (x : Terminal) (s t : List Symbol) (p p2 : Parts) (w : Wanted) → x ≡ terminal l
    → IsWanted x s p t p2 w → w ≡ Refused → IsRead l s p t p2 false
read_refused l x s t p p2 w e h g = refused_read l s p (subst (λ (z : Terminal). Refuses z s p) e (wanted_refused t p2 h g))
