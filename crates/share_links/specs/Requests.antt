-- How one request for links is answered (this project's own).
use Rattle.std.specs.Prelude.{◌≡◌, ℕ, List, [], ◌∷◌, true, false, Option, IfSome, Result, Ok, Err}
use Rattle.guac_handshake.specs.Doors.{Sessions}
use Rattle.guac_handshake.specs.declared.form_refusal.FormRefusal.{FormRefusal}
use Rattle.guac_handshake.specs.declared.form_refusal.FormRefusal.TheVariants as form
use Rattle.id_table.specs.Draws.{IsFirstAbsent}
use Rattle.id_table.specs.Maps.{Map, Same}
use Rattle.uuid.specs.Text.{hyphenated_text, lower}
use Rattle.share_links.specs.Doors.{HasName}
use Rattle.share_links.specs.Forms.{IsForm, IsNoForm}
use Rattle.share_links.specs.Links.{AreDrawnThere, Makes, Revokes}
use Rattle.share_links.specs.declared.form.Wanted.{Wanted}
use Rattle.share_links.specs.declared.link.Link.{Link}
use Rattle.http_front.specs.declared.refusal.Refusal.{Refusal}
use Rattle.http_front.specs.declared.refusal.Refusal.TheVariants.{NotFound, Form, Method, Dial, Busy, Conflict, Forbidden, TooMany, Closed, NoMemory}
use Rattle.share_links.specs.declared.route.Route.{Route}
use Rattle.share_links.specs.declared.table.LinkRefusal.{LinkRefusal}
use Rattle.share_links.specs.declared.table.LinkRefusal.TheVariants as unmade
use Rattle.share_links.specs.declared.route.Route.TheVariants as route

-- the refusal of a form that wasn't read, and of a link that wasn't made
abbrev pub refused_form : FormRefusal → Refusal
refused_form form.Form = Form
refused_form (form.Door refused) = NoMemory
refused_form form.NoMemory = NoMemory

abbrev pub refused_make : LinkRefusal → Refusal
refused_make (unmade.Conflict drawn) = Conflict
refused_make unmade.NoMemory = NoMemory

-- the name of a link: `$` and its ID with hyphens, in small letters
abbrev pub name_of_link : List ℕ → List ℕ
name_of_link link = 36 ∷ hyphenated_text lower link

-- a form wants a link to a session that the door has, or that it doesn't have
pub record IsWanted (id_of : List ℕ → Option (List ℕ)) (sessions : Option Sessions) (body : List ℕ) (wanted : Wanted) : Type 0 where
  pub form : IsForm body wanted
  pub known : HasName id_of sessions wanted.id true

pub record IsUnknown (id_of : List ℕ → Option (List ℕ)) (sessions : Option Sessions) (body : List ℕ) (wanted : Wanted) : Type 0 where
  pub form : IsForm body wanted
  pub unknown : HasName id_of sessions wanted.id false

-- four IDs are there: those of the next four draws, where the dice tell them
abbrev pub FourAreThere : Option (ℕ → List ℕ) → Map Link → Type 0
FourAreThere drawn m = (ids : List (List ℕ)) × AreDrawnThere drawn m ids

-- the link that a form wants was made, under the first of the next IDs that is absent, and its name is the answer; or
-- none was, for the first cause that holds
abbrev pub MakeOf : (List ℕ → Option (List ℕ)) → Option Sessions → Option (ℕ → List ℕ) → List ℕ → Map Link → Map Link → Result (List ℕ) Refusal → Type 0
MakeOf id_of sessions drawn body m n (Ok text) =
    (wanted : Wanted) × (link : List ℕ) × IsWanted id_of sessions body wanted × Makes link wanted.id wanted.control wanted.uses m n × IfSome drawn (λ draws. IsFirstAbsent m draws link) × (text ≡ name_of_link link)
MakeOf id_of sessions drawn body m n (Err Form) = IsNoForm body × Same m n
MakeOf id_of sessions drawn body m n (Err NotFound) = ((wanted : Wanted) × IsUnknown id_of sessions body wanted) × Same m n
MakeOf id_of sessions drawn body m n (Err Conflict) = ((wanted : Wanted) × IsWanted id_of sessions body wanted) × FourAreThere drawn m × Same m n
MakeOf id_of sessions drawn body m n (Err NoMemory) = Same m n
MakeOf id_of sessions drawn body m n (Err Method) = ⊥
MakeOf id_of sessions drawn body m n (Err Dial) = ⊥
MakeOf id_of sessions drawn body m n (Err Busy) = ⊥
MakeOf id_of sessions drawn body m n (Err Forbidden) = ⊥
MakeOf id_of sessions drawn body m n (Err TooMany) = ⊥
MakeOf id_of sessions drawn body m n (Err Closed) = ⊥

-- a link was revoked, or there is none
abbrev pub RevokeOf : List ℕ → Map Link → Map Link → Result (List ℕ) Refusal → Type 0
RevokeOf id m n (Ok text) = (text ≡ []) × Revokes id true m n
RevokeOf id m n (Err NotFound) = Revokes id false m n
RevokeOf id m n (Err Form) = ⊥
RevokeOf id m n (Err Method) = ⊥
RevokeOf id m n (Err Conflict) = ⊥
RevokeOf id m n (Err Dial) = ⊥
RevokeOf id m n (Err Busy) = ⊥
RevokeOf id m n (Err Forbidden) = ⊥
RevokeOf id m n (Err TooMany) = ⊥
RevokeOf id m n (Err Closed) = ⊥
RevokeOf id m n (Err NoMemory) = ⊥

-- what was done for a request that asks this, at a door of which the IDs of names and the sessions are told, and dice of
-- which the draws are
abbrev pub Serves : (List ℕ → Option (List ℕ)) → Option Sessions → Option (ℕ → List ℕ) → List ℕ → Map Link → Map Link → Result (List ℕ) Refusal → Route → Type 0
Serves id_of sessions drawn body m n answered (route.Refused refusal) = (answered ≡ Err refusal) × Same m n
Serves id_of sessions drawn body m n answered route.Make = MakeOf id_of sessions drawn body m n answered
Serves id_of sessions drawn body m n answered (route.Revoke id) = RevokeOf id m n answered
