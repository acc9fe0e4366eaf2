-- What the parts that are read from a file show of its system.
use Rattle.std.specs.Prelude.{◌≡◌, ℕ, ◌<◌, ◌≤◌, List, [], ◌∷◌, map, length, Option, MatchOption, slice_index_or}
use Rattle.expr.specs.Coded.{Coded}
use Rattle.system.specs.System.{System, Automaton, Update as Assignment, Row}
use Rattle.system.specs.Encode.{mark_byte}
use Rattle.system.specs.Shows.{Shows}
use Rattle.view.specs.declared.parts.Head.{Head}
use Rattle.view.specs.declared.parts.Transition.{Transition}
use Rattle.view.specs.declared.parts.Update.{Update}
use Rattle.view.specs.declared.rows.Rows.{Rows}
use Rattle.view.specs.declared.updates.Updates.{Updates}
use Rattle.view.specs.declared.view.View.{View}
use Rattle.view.specs.Walk.{UpdatesAt, RowsAt}
use Rattle.view.specs.Systems.{read_system}

-- the system that a view shows, the only one
abbrev pub system_of : View → System
system_of v = read_system v.file.now

abbrev pub ViewOf : View → System → Type 0
ViewOf v S = Shows v.file.now v.layout S

abbrev pub RowsOf : Rows → List Row → Type 0
RowsOf r rs = RowsAt r.file.now r.at r.left rs

abbrev pub UpdatesOf : Updates → List Assignment → Type 0
UpdatesOf r us = UpdatesAt r.file.now r.at r.left us

-- what stands for the element at an index, or none exactly past the last
pub record Element {A B : Type 0} (R : B → A → Type 0) (xs : List A) (i : ℕ) (r : Option B) : Type 0 where
  pub is : MatchOption r (length xs ≤ i) (λ b. (i < length xs) × ((d : A) → R b (slice_index_or xs i d)))

pub record HeadShows (h : Head) (A : Automaton) : Type 0 where
  pub role : h.role ≡ A.role
  pub start : h.start ≡ A.start
  pub locations : length h.marks.now ≡ length A.marks
  pub marks : h.marks.now ≡ map mark_byte A.marks
  pub alphabet : h.alphabet.now ≡ A.alphabet

pub record TransitionShows (r : Transition) (t : Row) : Type 0 where
  pub owner : r.owner ≡ t.owner
  pub from : r.from ≡ t.transition.from
  pub event : r.event ≡ t.transition.event
  pub to : r.to ≡ t.transition.to
  pub guard : Coded r.guard.code.now t.transition.guard
  pub updates : UpdatesOf r.updates t.transition.updates

pub record UpdateShows (r : Update) (u : Assignment) : Type 0 where
  pub variable : r.variable ≡ u.variable
  pub value : Coded r.value.code.now u.value

-- a list's first element and those after it
pub record FirstAndRest {A B C : Type 0} (First : B → A → Type 0) (Rest : C → List A → Type 0) (xs : List A) (b : B) (c : C) : Type 0 where
  pub head : A
  pub tail : List A
  pub are : xs ≡ head ∷ tail
  pub first : First b head
  pub rest : Rest c tail

-- the first update and what is left after it, or none exactly where no update is left
abbrev pub NextUpdate : Updates → Option Update → Updates → Type 0
NextUpdate s r t = (us : List Assignment) → UpdatesOf s us → MatchOption r (us ≡ []) (λ u. FirstAndRest UpdateShows UpdatesOf us u t)

-- the same of transitions
abbrev pub NextRow : Rows → Option Transition → Rows → Type 0
NextRow s r t = (rs : List Row) → RowsOf s rs → MatchOption r (rs ≡ []) (λ x. FirstAndRest TransitionShows RowsOf rs x t)
