-- What passes through a door with links, in the words of the door inside it.
use Rattle.std.proofs.Common.{◌≡◌, ℕ, List, Option, Some, None, Ok, Bool, true, false, refl, ap, sym, ◌∙◌, subst, inl, inr}
use Rattle.std.specs.Prelude.{◌⊎◌, ◌&&◌, ◌||◌, if◌then◌else◌, Result, IfSome, is_some}
use Rattle.gate_model.specs.session.History.{History}
use Rattle.gate_model.specs.declared.sharing.Asked.{Asked}
use Rattle.gate_model.specs.declared.sharing.Asked.TheVariants.{Owner, Control, View, Keep}
use Rattle.guac_handshake.specs.Doors.{IsAbsent, KeepsIds, MeetsHistory, SameId, Sessions, at_name, logged, one_more_out, option_less}
use Rattle.guac_handshake.specs.Names.{id_of_name}
use Rattle.guac_handshake.specs.Views.{DoorView, Gives, Joins, Looks}
use Rattle.guac_handshake.specs.declared.refused.Refused.{Refused}
use Rattle.guac_handshake.specs.declared.request.Request.{Request}
use Rattle.guac_handshake.specs.declared.request.Request.TheVariants.{Join}
use Rattle.guac_handshake.specs.declared.welcome.Welcome.{Welcome}
use Rattle.guac_handshake.proofs.Touching.{told_on}
use Rattle.id_table.specs.Maps.{Map, Same, Told}
use Rattle.share_links.specs.Doors.{Answers, HasName, Through, Uses, at_link, given_as, is_known_at, leads_there, role_through, session_of}
use Rattle.share_links.specs.Links.{Leads, Spends, is_usable}
use Rattle.share_links.specs.declared.link.Link.{Link}
use Rattle.share_links.specs.declared.table.Spent.{Spent}

-- what is told of the sessions, and what follows from it
if_so : (o : Option Sessions) (P Q : Sessions → Type 0) → ((m : Sessions) → P m → Q m) → IfSome o P → IfSome o Q
if_so None P Q f t = tt
if_so (Some m) P Q f t = f m t

-- .. of the sessions before, between and after two calls
-- the same is under each name
same_at : {V : Type 0} (name : Option (List ℕ)) (m n : Map V) → Same m n → at_name name n ≡ at_name name m
same_at None m n h = refl
same_at (Some id) m n h = h id

-- ---- a call of the inner door, behind one that looked

kept_after : (to : Option (List ℕ)) (m n l : Sessions) → Same m n → KeepsIds to n l → KeepsIds to m l
kept_after to m n l h g = λ k. (subst (λ (o : Option (Option History)). SameId o (l k)) (h k) (g k).0, λ ne. (g k).1 ne ∙ h k)

module _ (a b c : DoorView) (l : Looks a b) where
  pub looks_on : Looks b c → Looks a c
  looks_on k = record {
    sessions = told_on a.sessions b.sessions c.sessions Same Same Same (λ m n o h i x. i x ∙ h x) l.sessions k.sessions;
    out = k.out ∙ l.out;
    asked = k.asked ∙ l.asked;
    helper = k.helper ∙ l.helper;
  }

  pub gives_on : (to : Option (List ℕ)) → Gives to b c → Gives to a c
  gives_on to g = record {
    ids = told_on a.sessions b.sessions c.sessions Same (KeepsIds to) (KeepsIds to) (kept_after to) l.sessions g.ids;
    out = g.out ∙ ap option_less l.out;
    asked = g.asked ∙ l.asked;
    helper = g.helper ∙ l.helper;
  }

  pub joins_on : {A : Type 0} (id : Option (List ℕ)) (name : List ℕ) (role : Asked) (r : Result A Refused) → Joins id name role r b c → Joins id name role r a c
  joins_on id name role r j = record {
    absent = told_on a.sessions b.sessions c.sessions Same (λ m n. IsAbsent r (is_some (at_name id m))) (λ m n. IsAbsent r (is_some (at_name id m))) (λ m n o h g. subst (λ (x : Bool). IsAbsent r x) (ap is_some (same_at id m n h)) g) l.sessions j.absent;
    ids = told_on a.sessions b.sessions c.sessions Same (KeepsIds id) (KeepsIds id) (kept_after id) l.sessions j.ids;
    history = j.history;
    out = j.out ∙ ap (one_more_out r) l.out;
    asked = j.asked ∙ ap (λ (log : Option (List Request)). logged log (Join name role) r) l.asked;
    helper = j.helper ∙ l.helper;
  }

-- ---- which link a name is

module _ (links : Map Link) (name : List ℕ) where
  pub link_at : (named : Option (List ℕ)) (id : List ℕ) → named ≡ id_of_name name → named ≡ Some id → at_link name links ≡ links id
  link_at named id is some = ap (λ (o : Option (List ℕ)). at_name o links) (sym is ∙ some)

  pub no_link : (named : Option (List ℕ)) → named ≡ id_of_name name → named ≡ None → at_link name links ≡ None
  no_link named is none = ap (λ (o : Option (List ℕ)). at_name o links) (sym is ∙ none)

  -- what the inner door says of the name
  module _ (id_of : List ℕ → Option (List ℕ)) (has : Bool) where
    abbrev Has : Sessions → Type 0
    Has m = has ≡ is_some (at_name (id_of name) m)

    -- ---- it knows it

    pub given_itself : has ≡ true → (o : Option Sessions) → IfSome o Has → IfSome o (λ m. name ≡ given_as id_of m links name)
    given_itself is o t = if_so o Has (λ m. name ≡ given_as id_of m links name) (λ m h. ap (λ (b : Bool). if b then name else session_of name (at_link name links)) (sym is ∙ h)) t

    -- ---- it doesn't

    module _ (is : has ≡ false) where
      absent : (m : Sessions) → Has m → is_some (at_name (id_of name) m) ≡ false
      absent m h = sym h ∙ is

      pub has_none : (o : Option Sessions) → IfSome o Has → HasName id_of o name false
      has_none o t = if_so o Has (λ m. false ≡ is_some (at_name (id_of name) m)) (λ m h. sym is ∙ h) t

      known_by : (m : Sessions) (l : Option Link) → at_link name links ≡ l → Has m → is_known_at id_of m links name ≡ leads_there id_of m l
      known_by m l at h = ap (λ (b : Bool). b || leads_there id_of m (at_link name links)) (absent m h) ∙ ap (λ (o : Option Link). leads_there id_of m o) at

      leads_usable : (m : Sessions) (l : Option Link) (spent : Spent) → Leads (Some spent) l → is_usable l ≡ true → leads_there id_of m l ≡ is_some (at_name (id_of spent.id.now) m)
      leads_usable m None spent leads usable = absurd leads
      leads_usable m (Some link) spent leads usable = ap (λ (b : Bool). b && is_some (at_name (id_of link.id) m)) usable ∙ ap (λ (i : List ℕ). is_some (at_name (id_of i) m)) (sym leads.0)

      leads_unusable : (m : Sessions) (l : Option Link) → is_usable l ≡ false → leads_there id_of m l ≡ false
      leads_unusable m None usable = refl
      leads_unusable m (Some link) usable = ap (λ (b : Bool). b && is_some (at_name (id_of link.id) m)) usable

      leads_nowhere : (m : Sessions) (l : Option Link) → Leads None l → leads_there id_of m l ≡ false
      leads_nowhere m None leads = refl
      leads_nowhere m (Some link) leads = absurd leads

      pub known_link : (o p : Option Sessions) (l : Option Link) (spent : Spent) (r : Bool) → at_link name links ≡ l → Leads (Some spent) l → is_usable l ≡ true → IfSome o Has → Told o p Same
          → IfSome p (λ m. r ≡ is_some (at_name (id_of spent.id.now) m)) → IfSome o (λ m. r ≡ is_known_at id_of m links name)
      known_link None p l spent r at leads usable h t u = tt
      known_link (Some m) None l spent r at leads usable h t u = absurd t
      known_link (Some m) (Some n) l spent r at leads usable h t u =
          u ∙ (ap is_some (same_at (id_of spent.id.now) m n t) ∙ sym (known_by m l at h ∙ leads_usable m l spent leads usable))

      pub known_unusable : (o : Option Sessions) (l : Option Link) (r : Bool) → at_link name links ≡ l → is_usable l ≡ false → r ≡ false → IfSome o Has → IfSome o (λ m. r ≡ is_known_at id_of m links name)
      known_unusable o l r at usable e t = if_so o Has (λ m. r ≡ is_known_at id_of m links name) (λ m h. e ∙ sym (known_by m l at h ∙ leads_unusable m l usable)) t

      pub known_nowhere : (o : Option Sessions) (l : Option Link) → at_link name links ≡ l → Leads None l → IfSome o Has → IfSome o (λ m. false ≡ is_known_at id_of m links name)
      known_nowhere o l at leads t = if_so o Has (λ m. false ≡ is_known_at id_of m links name) (λ m h. sym (known_by m l at h ∙ leads_nowhere m l leads)) t

      given_by : (m : Sessions) (l : Option Link) → at_link name links ≡ l → Has m → given_as id_of m links name ≡ session_of name l
      given_by m l at h = ap (λ (b : Bool). if b then name else session_of name (at_link name links)) (absent m h) ∙ ap (λ (o : Option Link). session_of name o) at

      session_led : (l : Option Link) (spent : Spent) → Leads (Some spent) l → session_of name l ≡ spent.id.now
      session_led None spent leads = absurd leads
      session_led (Some link) spent leads = sym leads.0

      session_none : (l : Option Link) → Leads None l → session_of name l ≡ name
      session_none None leads = refl
      session_none (Some link) leads = absurd leads

      given_to : (o : Option Sessions) (l : Option Link) (to : List ℕ) → at_link name links ≡ l → session_of name l ≡ to → IfSome o Has → IfSome o (λ m. to ≡ given_as id_of m links name)
      given_to o l to at led t = if_so o Has (λ m. to ≡ given_as id_of m links name) (λ m h. sym (given_by m l at h ∙ led)) t

      pub given_link : (o : Option Sessions) (l : Option Link) (spent : Spent) → at_link name links ≡ l → Leads (Some spent) l → IfSome o Has → IfSome o (λ m. spent.id.now ≡ given_as id_of m links name)
      given_link o l spent at leads t = given_to o l spent.id.now at (session_led l spent leads) t

      pub given_name : (o : Option Sessions) (l : Option Link) → at_link name links ≡ l → Leads None l → IfSome o Has → IfSome o (λ m. name ≡ given_as id_of m links name)
      given_name o l at leads t = given_to o l name at (session_none l leads) t

-- ---- join

pub role_is : (control : Bool) (role : Asked) → (role_through control role ≡ role) ⊎ (role_through control role ≡ View)
role_is true Control = inl refl
role_is true Owner = inr refl
role_is true View = inl refl
role_is true Keep = inr refl
role_is false role = inr refl

pub role_asked : (control : Bool) (role asked : Asked) → asked ≡ role_through control role → (asked ≡ role) ⊎ (asked ≡ View)
role_asked control role asked is = subst (λ (a : Asked). (a ≡ role) ⊎ (a ≡ View)) (sym is) (role_is control role)

-- a welcome under another name meets a history as well
meets_at : {P : Type 0} (o : Option (Option History)) (role : Asked) (v w : Welcome P) → MeetsHistory {A = Welcome P} o role (Ok v) → MeetsHistory {A = Welcome P} o role (Ok w)
meets_at None role v w h = tt
meets_at (Some None) role v w h = tt
meets_at (Some (Some past)) role v w h = h

met : (P : Type 0) (name : Option (List ℕ)) (o : Option Sessions) (role : Asked) (v w : Welcome P) → IfSome o (λ now. MeetsHistory {A = Welcome P} (at_name name now) role (Ok v)) → IfSome o (λ now. MeetsHistory {A = Welcome P} (at_name name now) role (Ok w))
met P name None role v w h = tt
met P name (Some m) role v w h = meets_at (at_name name m) role v w h

-- .. and is a join as well
pub joins_as : (P : Type 0) (id : Option (List ℕ)) (name : List ℕ) (role : Asked) (v w : Welcome P) (a b : DoorView) → Joins {A = Welcome P} id name role (Ok v) a b → Joins {A = Welcome P} id name role (Ok w) a b
joins_as P id name role v w a b j = record {
  absent = j.absent;
  ids = j.ids;
  history = met P id b.sessions role v w j.history;
  out = j.out;
  asked = j.asked;
  helper = j.helper;
}

module _ (P : Type 0) (id_of : List ℕ → Option (List ℕ)) (name : List ℕ) (role : Asked) (id : List ℕ) (m n : Map Link) (spent : Spent) (given : Asked) (named : id_of_name name ≡ Some id) (s : Spends id true m n) (leads : Leads (Some spent) (n id)) (is : given ≡ role_through spent.control role) where
  abbrev pub link_before : Link
  link_before = s.1.0

  led : Leads (Some spent) (Some s.1.1)
  led = subst (λ (o : Option Link). Leads (Some spent) o) s.1.4.0 leads

  same_session : spent.id.now ≡ link_before.id
  same_session = led.0 ∙ s.1.3.id

  same_role : given ≡ role_through link_before.control role
  same_role = is ∙ ap (λ (b : Bool). role_through b role) (led.1 ∙ s.1.3.control)

  pub through : (after : Map Link) (result : Result (Welcome P) Refused) (a b : DoorView) → Uses id result m after → Answers id_of spent.id.now name given result a b → Through id_of name role id link_before m after result a b
  through after result a b used answers = record {
    named = named;
    found = s.1.2;
    uses = used;
    answers = subst (λ (r : Asked). Answers id_of link_before.id name r result a b) same_role
        (subst (λ (i : List ℕ). Answers id_of i name given result a b) same_session answers);
  }
