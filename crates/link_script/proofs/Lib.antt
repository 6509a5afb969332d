mod Hearing
mod Changes
mod Goings
mod Servers
mod Shows
