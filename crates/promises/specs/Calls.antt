-- What each call promises: an equation for its answer and for every table lent to it, refused or not.
use Rattle.std.specs.Prelude.{ℕ, ◌≡◌, cond, List, [], eqb}
use Rattle.meaning.specs.Rights.{Change}
use Rattle.meaning.specs.Ledger.{Settings, opening, change}
use Rattle.rights.specs.Entries.{registered}
use Rattle.promises.specs.Tables.{Tables, settings_alone}
use Rattle.promises.specs.Answers.{number, opened}

-- an opening with settings s, lent the tables T; it leaves the sketch table and the working table as they were
pub record OpenPromise (s : Settings) (T : Tables) (n : ℕ) (settings nodes pages : List ℕ) : Type 0 where
  pub answers : n ≡ number T [] (opening s)
  pub settings-left : settings ≡ cond (eqb (number T [] (opening s)) 0) (opened s T).settings T.settings
  pub nodes-left : nodes ≡ cond (eqb (number T [] (opening s)) 0) (opened s T).nodes T.nodes
  pub pages-left : pages ≡ cond (eqb (number T [] (opening s)) 0) (opened s T).pages T.pages

-- a change of the register, lent the settings table ws
pub record RightsPromise (c : Change) (ws : List ℕ) (n : ℕ) (settings : List ℕ) : Type 0 where
  pub answers : n ≡ number (settings_alone ws) [] (change c)
  pub settings-left : settings ≡ cond (eqb (number (settings_alone ws) [] (change c)) 0) (registered c ws) ws
