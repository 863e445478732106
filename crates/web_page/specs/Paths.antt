-- The paths of the page's files, made of web/ by tools/page-files.
use Rattle.std.specs.Prelude.{ℕ, List, [], ◌∷◌, codes}
use Rattle.page_files.specs.declared.file.PageFile.{PageFile}

abbrev pub path_of : PageFile → List ℕ
path_of file = file.path.now

-- in their order
abbrev pub paths : List (List ℕ)
paths =
    codes "/address.js" ∷
    codes "/cells.js" ∷
    codes "/choices.js" ∷
    codes "/clock.js" ∷
    codes "/display.js" ∷
    codes "/faces.js" ∷
    codes "/follow.js" ∷
    codes "/font.js" ∷
    codes "/index.html" ∷
    codes "/instructions.js" ∷
    codes "/keyboard.js" ∷
    codes "/keysyms.js" ∷
    codes "/layers.js" ∷
    codes "/main.js" ∷
    codes "/messages.js" ∷
    codes "/outbox.js" ∷
    codes "/palette.js" ∷
    codes "/paste.js" ∷
    codes "/play.css" ∷
    codes "/play.html" ∷
    codes "/play.js" ∷
    codes "/player.js" ∷
    codes "/request.js" ∷
    codes "/rest.js" ∷
    codes "/save.js" ∷
    codes "/scrollback.js" ∷
    codes "/selection.js" ∷
    codes "/share.js" ∷
    codes "/sharp.js" ∷
    codes "/socket.js" ∷
    codes "/speech.js" ∷
    codes "/style.css" ∷
    codes "/textlayer.js" ∷
    codes "/timer.js" ∷
    codes "/touch.js" ∷
    codes "/tunnel.js" ∷
    codes "/view.js" ∷
    codes "/ways.js" ∷
    []
