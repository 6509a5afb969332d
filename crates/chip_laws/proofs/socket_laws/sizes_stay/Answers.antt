use Rattle.chip_sheet.proofs.SizeLaws.{sizes_after, sizes_before}
use Rattle.chip_laws.proofs.socket_laws.sizes_stay.Goals as goal

pub returns : goal.returns
returns c = record {
  leaves = λ starts past entry n k below legal on. let stay = sizes_after starts past entry n below legal on in (stay.tx k, stay.rx k);
  finds = λ starts past entry n k below legal on kept. let stay = sizes_before starts past entry n below legal on kept in (stay.tx k, stay.rx k);
}
