-- When the token that covers an edit is parsed again.
use Rattle.std.proofs.Common.{◌≡◌, ℕ, List, sym, ap, ◌∙◌, subst, Option, Some, None}
use Rattle.std.specs.Prelude.{MatchOption, string_bytes, option_map}
use Rattle.syntax_kind.specs.declared.syntax_kind.SyntaxKind.{SyntaxKind}
use Rattle.tree_model.specs.Tree.{Tree, node, token, kind_of, text, IsToken, subtree}
use Rattle.tree_model.specs.Cursor.{Cursor, IsRoot, focus, range_end}
use Rattle.tree_model.specs.Edit.{root_of}
use Rattle.tree_model.specs.Covering.{covering_of}
use Rattle.lossless_tree.specs.SyntaxText.{StartsAt, NoneStartsAt}
use Rattle.lossless_tree.specs.declared.cursor.element.NodeOrToken.{NodeOrToken}
use Rattle.lossless_tree.specs.Element.{element_by, element_of, token_part, ancestors_of_element}
use Rattle.ras_front_end.specs.declared.edition.Edition.{Edition}
use Rattle.ras_front_end.specs.Front.{Front}
use Rattle.ras_parsing.specs.Edit.{Edit, covered, edited_at}
use Rattle.ras_parsing.specs.Reparse.{TokenPath, MayBeReread, StaysOneToken, nodes_around}
use Rattle.ras_parsing.specs.Rereading.{MayStay, IsOneToken, NoOneToken, IsNewToken}
use Rattle.ras_parsing.specs.declared.reparse.OneToken.{OneToken}
use Rattle.ras_parsing.proofs.OneToken.{Next, stays, is_one}

-- ---- what covers an edit, from the root

root_is : (root : Cursor) → IsRoot root → root ≡ root_of root.tree
root_is root h = ap (λ p. let c : Cursor = record { tree = root.tree; place = p } in c) h

pub covering_is : (root : Cursor) (edit : Edit) → IsRoot root → element_of (covering_of root edit.delete) ≡ element_of (covered root.tree edit)
covering_is root edit h = ap (λ c. element_of (covering_of c edit.delete)) (root_is root h)

pub root_text : (root : Cursor) → IsRoot root → text (focus root) ≡ text root.tree
root_text root h = ap (λ p. text (subtree root.tree p)) h

pub record IsFound (t : Tree) (c d : Cursor) : Type 0 where
  pub same : d ≡ c
  pub is_token : IsToken t

found_by : (t : Tree) (c d : Cursor) → token_part (element_by t c) ≡ Some d → IsFound t c d
found_by (node k f) c d e = (let none : None ≡ Some d = e in cc)
found_by (token k s) c d e = record { same = (let f : Some c ≡ Some d = e in cc); is_token = tt }

pub none_by : (t : Tree) (c : Cursor) → token_part (element_by t c) ≡ None → IsToken t → ⊥
none_by (node k f) c e h = h
none_by (token k s) c e h = (let f : Some c ≡ None = e in cc)

pub token_found : (root : Cursor) (edit : Edit) (e : NodeOrToken Cursor Cursor) (o : Option Cursor) (d : Cursor) → IsRoot root → e ≡ element_of (covering_of root edit.delete) → o ≡ token_part e → o ≡ Some d → IsFound (focus (covered root.tree edit)) (covered root.tree edit) d
token_found root edit e o d h f g is =
    found_by (focus (covered root.tree edit)) (covered root.tree edit) d (sym (g ∙ ap token_part (f ∙ covering_is root edit h)) ∙ is)

pub no_token : (front : Front) (edition : Edition) (root : Cursor) (edit : Edit) (e : NodeOrToken Cursor Cursor) (o : Option Cursor) → IsRoot root → e ≡ element_of (covering_of root edit.delete) → o ≡ token_part e → o ≡ None
    → (fault : Option (List ℕ)) → TokenPath front edition root.tree edit fault → ⊥
no_token front edition root edit e o h f g is fault w =
    none_by (focus (covered root.tree edit)) (covered root.tree edit) (sym (g ∙ ap token_part (f ∙ covering_is root edit h)) ∙ is) w.0.is_token

pub around_is : (root : Cursor) (edit : Edit) (e : NodeOrToken Cursor Cursor) → IsRoot root → e ≡ element_of (covering_of root edit.delete) → ancestors_of_element e ≡ nodes_around root.tree edit
around_is root edit e h f = ap ancestors_of_element (f ∙ covering_is root edit h)

-- ---- one token

pub next_is : (s : List ℕ) (o : ℕ) (c : Cursor) (next : Option ℕ) → s ≡ text c.tree → o ≡ range_end c → MatchOption next (NoneStartsAt s o) (StartsAt s o) → Next c next
next_is s o c next e f h = subst (λ m. MatchOption next (NoneStartsAt (text c.tree) m) (StartsAt (text c.tree) m)) f (subst (λ l. MatchOption next (NoneStartsAt l o) (StartsAt l o)) e h)

-- what was asked of the token d that covers an edit
pub record Asked (tree : Tree) (edit : Edit) (d : Cursor) (k : SyntaxKind) (new : List ℕ) (next : Option ℕ) : Type 0 where
  pub found : IsFound (focus (covered tree edit)) (covered tree edit) d
  pub kind_is : k ≡ kind_of (focus d)
  pub text_is : new ≡ edited_at d edit
  pub next_is : Next d next

may : (tree : Tree) (edit : Edit) (d : Cursor) (k : SyntaxKind) → IsFound (focus (covered tree edit)) (covered tree edit) d → k ≡ kind_of (focus d) → MayStay k (text tree) edit.delete → MayBeReread (covered tree edit) edit
may tree edit d k f e m =
    let same : k ≡ kind_of (focus (covered tree edit)) = e ∙ ap (λ (c : Cursor). kind_of (focus c)) f.same in
    let n = subst (λ j. MayStay j (text tree) edit.delete) same m in
    record { is_token = f.is_token; kind = n.0; lines_stay = n.1 }

may_not : (tree : Tree) (edit : Edit) (d : Cursor) (k : SyntaxKind) → IsFound (focus (covered tree edit)) (covered tree edit) d → k ≡ kind_of (focus d) → MayBeReread (covered tree edit) edit → MayStay k (text tree) edit.delete
may_not tree edit d k f e m =
    let same : k ≡ kind_of (focus (covered tree edit)) = e ∙ ap (λ (c : Cursor). kind_of (focus c)) f.same in
    subst (λ j. MayStay j (text tree) edit.delete) (sym same) (m.kind, m.lines_stay)

pub not_kept : (front : Front) (edition : Edition) (tree : Tree) (edit : Edit) (d : Cursor) (k : SyntaxKind) → IsFound (focus (covered tree edit)) (covered tree edit) d → k ≡ kind_of (focus d) → (MayStay k (text tree) edit.delete → ⊥)
    → (fault : Option (List ℕ)) → TokenPath front edition tree edit fault → ⊥
not_kept front edition tree edit d k f e never fault w = never (may_not tree edit d k f e w.0)

pub is_read : (front : Front) (edition : Edition) (tree : Tree) (edit : Edit) (d : Cursor) (k : SyntaxKind) (new : List ℕ) (next : Option ℕ) (fault : Option (List ℕ)) → Asked tree edit d k new next → MayStay k (text tree) edit.delete
    → IsOneToken front edition k new next fault → IsNewToken front edition tree edit d new fault
is_read front edition tree edit d k new next fault a m w =
    let one = subst (λ j. IsOneToken front edition j new next fault) a.kind_is w in
    let s = stays front edition d edit new next fault a.next_is a.text_is one in
    record { covers = a.found.same; text_is = a.text_is; path = (may tree edit d k a.found a.kind_is m, subst (λ c. StaysOneToken front edition c edit fault) a.found.same s) }

pub not_read : (front : Front) (edition : Edition) (tree : Tree) (edit : Edit) (d : Cursor) (k : SyntaxKind) (new : List ℕ) (next : Option ℕ) → Asked tree edit d k new next
    → ((fault : Option (List ℕ)) → IsOneToken front edition k new next fault → ⊥) → (fault : Option (List ℕ)) → TokenPath front edition tree edit fault → ⊥
not_read front edition tree edit d k new next a never fault w =
    let s = subst (λ c. StaysOneToken front edition c edit fault) (sym a.found.same) w.1 in
    never fault (subst (λ j. IsOneToken front edition j new next fault) (sym a.kind_is) (is_one front edition d edit new next fault a.next_is a.text_is s))

-- what `one_token` answered
abbrev Answered : Front → Edition → SyntaxKind → List ℕ → Option ℕ → Option OneToken → Type 0
Answered front edition k new next o = MatchOption o (NoOneToken front edition k new next) (λ (e : OneToken). IsOneToken front edition k new next (option_map string_bytes e.error))

pub one_is : (front : Front) (edition : Edition) (k : SyntaxKind) (new : List ℕ) (next : Option ℕ) (o : Option OneToken) (e : OneToken) → Answered front edition k new next o → o ≡ Some e → IsOneToken front edition k new next (option_map string_bytes e.error)
one_is front edition k new next o e h is = subst (Answered front edition k new next) is h

pub none_is : (front : Front) (edition : Edition) (k : SyntaxKind) (new : List ℕ) (next : Option ℕ) (o : Option OneToken) → Answered front edition k new next o → o ≡ None → NoOneToken front edition k new next
none_is front edition k new next o h is = subst (Answered front edition k new next) is h
