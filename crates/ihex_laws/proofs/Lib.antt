mod Digits
mod FirstLine
mod OneRecord
mod OneLine
mod Rows
mod Texts
